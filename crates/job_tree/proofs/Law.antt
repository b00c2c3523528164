-- What a reader of the grammar keeps to, and readers joined.
use Rattle.std.proofs.Common.{◌≡◌, ℕ, ◌≤◌, ◌<◌, Bool, false, ◌⊎◌, inl, inr, List, [], ◌∷◌, ◌++◌, length, length-append, refl, ap, sym, ◌∙◌, arith, Option, Some, None, Ok, Err, subst}
use Rattle.job_tree.specs.declared.token.Kind.{Kind}
use Rattle.job_tree.specs.declared.token.Token.{Token}
use Rattle.job_tree.specs.Fault.{Why, Wrong, Deep, Stop, wrong}
use Rattle.job_tree.specs.Readers.{Read, Reader, and_then, ◌>>=◌, taken, one, goes}
use Rattle.job_tree.specs.Word.{Word, level_of, Is, Spells}
use Rattle.job_tree.proofs.Lists.{err_same, left_of, head_same, tail_same, not_cons}

-- where a token opened a level too many: the word of it
abbrev pub TooMany : ℕ → Why → List Word → List Token → Type 0
TooMany max Wrong more left = Unit {0}
TooMany max Deep [] left = ⊥
TooMany max Deep (w ∷ more) [] = ⊥
TooMany max Deep (w ∷ more) (t ∷ left) = Is w t × (max < level_of w)

-- a value was read that these tokens spell
abbrev pub Told : {A : Type 0} → ℕ → (A → List Word → Type 0) → List Token → A × List Token → Type 0
Told max R ts r = (seen : List Token) × (ws : List Word) × (ts ≡ seen ++ r.1) × Spells max ws seen × R r.0 ws

-- what was seen begins a value
abbrev pub Stopped : {A : Type 0} → ℕ → (A → List Word → Type 0) → List Token → Stop → Type 0
Stopped {A = A} max R ts s =
    (seen : List Token) × (ws : List Word) × (x : A) × (more : List Word) × (ts ≡ seen ++ s.left) × Spells max ws seen × R x (ws ++ more) × TooMany max s.why more s.left

-- R: which values are spelled by which words; on: the tokens with which a value may go on; max: the last level that may be opened
pub record Law {A : Type 0} (max : ℕ) (R : A → List Word → Type 0) (on : Kind → Bool) (read : Reader A) : Type 0 where
  pub reads : (ts : List Token) (r : A × List Token) → read ts ≡ Ok r → Told max R ts r
  pub viable : (ts : List Token) (s : Stop) → read ts ≡ Err s → Stopped max R ts s
  -- what is spelled so is read, where no token follows with which it may go on
  pub again : (x : A) (ws : List Word) (ks rest : List Token) → R x ws → Spells max ws ks → goes on rest ≡ false → read (ks ++ rest) ≡ Ok (x, rest)
  -- reading goes beyond what begins a value
  pub passes : (x : A) (ws more : List Word) (ks rest : List Token) → R x (ws ++ more) → Spells max ws ks → length (left_of (read (ks ++ rest))) ≤ length rest

-- some value is spelled by some words
abbrev pub Example : {A : Type 0} → (A → List Word → Type 0) → Type 0
Example {A = A} R = (x : A) × (ws : List Word) × R x ws

-- no more is left than there was
pub told_less : {A : Type 0} (max : ℕ) (R : A → List Word → Type 0) {read : Reader A} → ((ts : List Token) (r : A × List Token) → read ts ≡ Ok r → Told max R ts r) → ((ts : List Token) (s : Stop) → read ts ≡ Err s → Stopped max R ts s) → (ts : List Token) → length (left_of (read ts)) ≤ length ts
told_less {A = A} max R {read = read} reads viable ts = by (read ts) refl
  where
    by : (r : Read A) → read ts ≡ r → length (left_of r) ≤ length ts
    by (Ok x) e = let v = reads ts x e in omega (arith, ap length v.2, length-append v.0 x.1)
    by (Err s) e = let v = viable ts s e in omega (arith, ap length v.4, length-append v.0 s.left)

pub less : {A : Type 0} {max : ℕ} {R : A → List Word → Type 0} {on : Kind → Bool} {read : Reader A} → Law max R on read → (ts : List Token) → length (left_of (read ts)) ≤ length ts
less {max = max} {R = R} law ts = told_less max R law.reads law.viable ts

pub bind_ok : {A B : Type 0} (r : Read A) (k : A → Reader B) (y : B × List Token) → and_then r k ≡ Ok y → (x : A) × (ts : List Token) × (r ≡ Ok (x, ts)) × (k x ts ≡ Ok y)
bind_ok (Ok x) k y e = (x.0, x.1, refl, e)
bind_ok (Err s) k y e = absurd cc

pub bind_err : {A B : Type 0} (r : Read A) (k : A → Reader B) (s : Stop) → and_then r k ≡ Err s → (r ≡ Err s) ⊎ ((x : A) × (ts : List Token) × (r ≡ Ok (x, ts)) × (k x ts ≡ Err s))
bind_err (Ok x) k s e = inr (x.0, x.1, refl, e)
bind_err {A = A} {B = B} (Err d) k s e = inl (ap (λ z. Err z) (err_same {B = B × List Token} d s e))

pub too_many_more : (max : ℕ) (why : Why) (more rest : List Word) (left : List Token) → TooMany max why more left → TooMany max why (more ++ rest) left
too_many_more max Wrong more rest left h = tt
too_many_more max Deep [] rest left h = absurd h
too_many_more max Deep (w ∷ more) rest [] h = absurd h
too_many_more max Deep (w ∷ more) rest (t ∷ left) h = h

-- ---- one token, and then what it gives

module _ {A B : Type 0} (max : ℕ) (f : Token → Option A) (k : A → Reader B) (S : B → List Word → Type 0) (Q : A → B → List Word → Type 0) {on : Kind → Bool}
    (parts : (b : B) (ws : List Word) → S b ws → (w : Word) × (vs : List Word) × (ws ≡ w ∷ vs) × ((t : Token) → Is w t → level_of w ≤ max → (x : A) × (f t ≡ Some x) × Q x b vs))
    (whole : (t : Token) (x : A) → f t ≡ Some x → (w : Word) × Is w t × (level_of w ≤ max) × ((b : B) (vs : List Word) → Q x b vs → S b (w ∷ vs)))
    (lk : (x : A) → Law max (Q x) on (k x)) (some : Example S) where
  one_reads : (ts : List Token) (r : B × List Token) → (one f >>= k) ts ≡ Ok r → Told max S ts r
  one_reads [] r e = absurd cc
  one_reads (t ∷ ts) r e = by (f t) refl e
    where
      by : (o : Option A) → f t ≡ o → and_then (taken o t ts) k ≡ Ok r → Told max S (t ∷ ts) r
      by (Some x) h e =
          let v = (lk x).reads ts r e in
          let w = whole t x h in
          (t ∷ v.0, w.0 ∷ v.1, ap (λ l. t ∷ l) v.2, (w.1, w.2, v.3), w.3 r.0 v.1 v.4)
      by None h e = absurd cc

  none_stops : (ts : List Token) (s : Stop) → wrong ts ≡ s → Stopped max S ts s
  none_stops ts s e = ([], [], some.0, some.1, ap (λ (z : Stop). z.left) e, tt, some.2, subst (λ (z : Stop). TooMany max z.why some.1 z.left) e tt)

  one_viable : (ts : List Token) (s : Stop) → (one f >>= k) ts ≡ Err s → Stopped max S ts s
  one_viable [] s e = none_stops [] s (err_same {B = B × List Token} (wrong []) s e)
  one_viable (t ∷ ts) s e = by (f t) refl e
    where
      by : (o : Option A) → f t ≡ o → and_then (taken o t ts) k ≡ Err s → Stopped max S (t ∷ ts) s
      by (Some x) h e =
          let v = (lk x).viable ts s e in
          let w = whole t x h in
          (t ∷ v.0, w.0 ∷ v.1, v.2, v.3, ap (λ l. t ∷ l) v.4, (w.1, w.2, v.5), w.3 v.2 (v.1 ++ v.3) v.6, v.7)
      by None h e = none_stops (t ∷ ts) s (err_same {B = B × List Token} (wrong (t ∷ ts)) s e)

  -- a value's first token is read
  module _ (b : B) (us : List Word) (is : S b us) where
    heads : (w : Word) (ws : List Word) (t : Token) → us ≡ w ∷ ws → Is w t → level_of w ≤ max → (x : A) × (f t ≡ Some x) × Q x b ws
    heads w ws t e at fits =
        let p = parts b us is in
        let both : p.0 ∷ p.1 ≡ w ∷ ws = sym p.2 ∙ e in
        let here : p.0 ≡ w = head_same p.0 w p.1 ws both in
        let q = p.3 t (subst (λ z. Is z t) (sym here) at) (subst (λ z. level_of z ≤ max) (sym here) fits) in
        (q.0, q.1, subst (λ z. Q q.0 b z) (tail_same p.0 w p.1 ws both) q.2)

  one_again : (b : B) (ws : List Word) (ks rest : List Token) → S b ws → Spells max ws ks → goes on rest ≡ false → (one f >>= k) (ks ++ rest) ≡ Ok (b, rest)
  one_again b [] ks rest is a g = let p = parts b [] is in absurd (not_cons p.0 p.1 p.2)
  one_again b (w ∷ ws) [] rest is a g = absurd a
  one_again b (w ∷ ws) (t ∷ ks) rest is a g =
      let h = heads b (w ∷ ws) is w ws t refl a.0 a.1 in
      ap (λ o. and_then (taken o t (ks ++ rest)) k) h.1 ∙ (lk h.0).again b ws ks rest h.2 a.2 g

  one_passes : (b : B) (ws more : List Word) (ks rest : List Token) → S b (ws ++ more) → Spells max ws ks → length (left_of ((one f >>= k) (ks ++ rest))) ≤ length rest
  one_passes b [] more [] rest is a = told_less max S {read = one f >>= k} one_reads one_viable rest
  one_passes b [] more (t ∷ ks) rest is a = absurd a
  one_passes b (w ∷ ws) more [] rest is a = absurd a
  one_passes b (w ∷ ws) more (t ∷ ks) rest is a =
      let h = heads b (w ∷ (ws ++ more)) is w (ws ++ more) t refl a.0 a.1 in
      omega (arith, ap (λ o. length (left_of (and_then (taken o t (ks ++ rest)) k))) h.1, (lk h.0).passes b ws more ks rest h.2 a.2)

  pub one_law : Law max S on (one f >>= k)
  one_law = record { reads = one_reads; viable = one_viable; again = one_again; passes = one_passes }
