-- Results, and lists of words and tokens.
use Rattle.std.proofs.Common.{◌≡◌, ℕ, ◌≤◌, Bool, true, false, cond, ◌⊎◌, inl, inr, List, [], ◌∷◌, ◌++◌, refl, ap, sym, ◌∙◌, arith, Option, Some, Result, Ok, Err}
use Rattle.job_tree.specs.declared.token.Kind.{Kind}
use Rattle.job_tree.specs.declared.token.Token.{Token}
use Rattle.job_tree.specs.Fault.{Stop}
use Rattle.job_tree.specs.Readers.{Read, goes}
use Rattle.job_tree.specs.Word.{Word, kind_of, Spells}

abbrev ok : {A : Type 0} → A → Result A Stop
ok x = Ok x

pub ok_same : {A : Type 0} (x y : A) → ok x ≡ ok y → x ≡ y
ok_same x y e = cc

abbrev stopped : {B : Type 0} → Stop → Result B Stop
stopped s = Err s

pub err_same : {B : Type 0} (d s : Stop) → stopped {B = B} d ≡ stopped s → d ≡ s
err_same d s e = cc

abbrev some_of : {A : Type 0} → A → Option A
some_of x = Some x

pub some_same : {A : Type 0} (x y : A) → some_of x ≡ some_of y → x ≡ y
some_same x y e = cc

-- which way a test went
pub chosen : {A : Type 0} (b : Bool) (x y z : A) → cond b x y ≡ z → ((b ≡ true) × (x ≡ z)) ⊎ ((b ≡ false) × (y ≡ z))
chosen true x y z e = inl (refl, e)
chosen false x y z e = inr (refl, e)

-- ---- what is left

abbrev pub left_of : {A : Type 0} → Read A → List Token
left_of (Ok x) = x.1
left_of (Err s) = s.left

-- ---- words and tokens

pub spells_join : (n : ℕ) (us vs : List Word) (ks ls : List Token) → Spells n us ks → Spells n vs ls → Spells n (us ++ vs) (ks ++ ls)
spells_join n [] vs [] ls a b = b
spells_join n [] vs (k ∷ ks) ls a b = absurd a
spells_join n (u ∷ us) vs [] ls a b = absurd a
spells_join n (u ∷ us) vs (k ∷ ks) ls a b = (a.0, a.1, spells_join n us vs ks ls a.2 b)

pub spells_parts : (n : ℕ) (us vs : List Word) (ts : List Token) → Spells n (us ++ vs) ts → (ks ls : List Token) × (ts ≡ ks ++ ls) × Spells n us ks × Spells n vs ls
spells_parts n [] vs ts a = ([], ts, refl, tt, a)
spells_parts n (u ∷ us) vs [] a = absurd a
spells_parts n (u ∷ us) vs (t ∷ ts) a = let p = spells_parts n us vs ts a.2 in (t ∷ p.0, p.1, ap (λ l. t ∷ l) p.2, (a.0, a.1, p.3), p.4)

pub spells_more : (n m : ℕ) (ws : List Word) (ts : List Token) → n ≤ m → Spells n ws ts → Spells m ws ts
spells_more n m [] [] h a = tt
spells_more n m [] (t ∷ ts) h a = absurd a
spells_more n m (w ∷ ws) [] h a = absurd a
spells_more n m (w ∷ ws) (t ∷ ts) h a = (a.0, omega (arith, a.1), spells_more n m ws ts h a.2)

pub spells_none : (n : ℕ) (ts : List Token) → Spells n [] ts → ts ≡ []
spells_none n [] a = refl
spells_none n (t ∷ ts) a = absurd a

-- words that begin with some are those and more, or begin some
pub cut : {A : Type 0} (ws more us vs : List A) → ws ++ more ≡ us ++ vs → ((rest : List A) × (ws ≡ us ++ rest) × (vs ≡ rest ++ more)) ⊎ ((rest : List A) × (us ≡ ws ++ rest) × (more ≡ rest ++ vs))
cut ws more [] vs e = inl (ws, refl, sym e)
cut [] more (u ∷ us) vs e = inr (u ∷ us, refl, e)
cut (w ∷ ws) more (u ∷ us) vs e =
    let head : w ≡ u = cc in
    let tail : ws ++ more ≡ us ++ vs = cc in
    elim (cut ws more us vs tail) [
      | inl p ↦ inl (p.0, ap (λ l. w ∷ l) p.1 ∙ ap (λ x. x ∷ (us ++ p.0)) head, p.2)
      | inr p ↦ inr (p.0, ap (λ l. u ∷ l) p.1 ∙ ap (λ x. x ∷ (ws ++ p.0)) (sym head), p.2)
    ]

pub head_same : {A : Type 0} (x y : A) (xs ys : List A) → x ∷ xs ≡ y ∷ ys → x ≡ y
head_same x y xs ys e = cc

pub tail_same : {A : Type 0} (x y : A) (xs ys : List A) → x ∷ xs ≡ y ∷ ys → xs ≡ ys
tail_same x y xs ys e = cc

pub not_cons : {A : Type 0} (x : A) (xs : List A) → [] ≡ x ∷ xs → ⊥
not_cons x xs e = cc

-- the first word passes a test
abbrev pub Headed : (Kind → Bool) → List Word → Type 0
Headed on [] = ⊥
Headed on (w ∷ ws) = on (kind_of w) ≡ true

pub goes_head : (n : ℕ) (on : Kind → Bool) (b : Bool) (w : Word) (ws : List Word) (ts rest : List Token) → on (kind_of w) ≡ b → Spells n (w ∷ ws) ts → goes on (ts ++ rest) ≡ b
goes_head n on b w ws [] rest e a = absurd a
goes_head n on b w ws (t ∷ ts) rest e a = ap on a.0.kind ∙ e
