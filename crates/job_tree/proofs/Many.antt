-- Items one after another.
use Rattle.std.proofs.Common.{◌≡◌, ℕ, zero, suc, ◌≤◌, ◌<◌, Bool, true, false, cond, inl, inr, List, [], ◌∷◌, ◌++◌, length, length-append, append_assoc, refl, ap, sym, ◌∙◌, arith, Ok, Err, subst}
use Rattle.std.specs.Prelude.{◌||◌}
use Rattle.std.proofs.lemmas.List.{append-nil}
use Rattle.job_tree.specs.declared.token.Kind.{Kind}
use Rattle.job_tree.specs.declared.token.Token.{Token}
use Rattle.job_tree.specs.Fault.{Stop}
use Rattle.job_tree.specs.Readers.{Read, Reader, and_then, ◌>>=◌, done, goes, many_at, many}
use Rattle.job_tree.specs.Word.{Word, kind_of, Spells}
use Rattle.job_tree.proofs.Lists.{ok_same, chosen, left_of, spells_join, spells_parts, spells_none, cut, Headed, goes_head}
use Rattle.job_tree.proofs.Law.{Told, Stopped, Law, told_less, bind_ok, bind_err}
use Rattle.job_tree.proofs.Joined.{bind_less}

-- each item is spelled by its words
abbrev pub Each : {A : Type 0} → (A → List Word → Type 0) → List A → List Word → Type 0
Each R [] ws = ws ≡ []
Each R (x ∷ xs) ws = (us vs : List Word) × (ws ≡ us ++ vs) × R x us × Each R xs vs

pub or_left : (a b : Bool) → (a || b) ≡ false → a ≡ false
or_left true b e = cc
or_left false b e = refl

pub or_right : (a b : Bool) → (a || b) ≡ false → b ≡ false
or_right true b e = cc
or_right false b e = e

pub goes_left : (f g : Kind → Bool) (ts : List Token) → goes (λ k. f k || g k) ts ≡ false → goes f ts ≡ false
goes_left f g [] e = refl
goes_left f g (t ∷ ts) e = or_left (f t.kind) (g t.kind) e

pub goes_right : (f g : Kind → Bool) (ts : List Token) → goes (λ k. f k || g k) ts ≡ false → goes g ts ≡ false
goes_right f g [] e = refl
goes_right f g (t ∷ ts) e = or_right (f t.kind) (g t.kind) e

-- an item has a token
abbrev pub Shrinks : {A : Type 0} → Reader A → Type 0
Shrinks {A = A} item = (ts : List Token) (x : A) (after : List Token) → item ts ≡ Ok (x, after) → length after < length ts

pub shrinks_by : {A : Type 0} {max : ℕ} {R : A → List Word → Type 0} {on : Kind → Bool} {read : Reader A} (first : Kind → Bool) → Law max R on read → ((x : A) (ws : List Word) → R x ws → Headed first ws) → Shrinks read
shrinks_by {A = A} {max = max} {R = R} first law heads ts x after e = let v = law.reads ts (x, after) e in by v.0 v.1 v.2 v.3 (heads x v.1 v.4)
  where
    by : (seen : List Token) (ws : List Word) → ts ≡ seen ++ after → Spells max ws seen → Headed first ws → length after < length ts
    by seen [] e a h = absurd h
    by [] (w ∷ ws) e a h = absurd a
    by (t ∷ seen) (w ∷ ws) e a h = omega (arith, ap length e, length-append seen after)

-- ---- the fuel doesn't matter

module _ {A : Type 0} (on : Kind → Bool) (item : Reader A) where
  abbrev pub one_more : ℕ → A → Reader (List A)
  one_more n x = many_at on item n >>= λ xs. done (x ∷ xs)

  module _ (shrinks : Shrinks item) where
    pub many_fuel : (n m : ℕ) (ts : List Token) → length ts ≤ n → length ts ≤ m → many_at on item n ts ≡ many_at on item m ts
    many_fuel zero zero ts h k = refl
    many_fuel zero (suc m) [] h k = refl
    many_fuel zero (suc m) (t ∷ ts) h k = absurd (omega arith)
    many_fuel (suc n) zero [] h k = refl
    many_fuel (suc n) zero (t ∷ ts) h k = absurd (omega arith)
    many_fuel (suc n) (suc m) ts h k =
        ap (λ r. cond (goes on ts) r (Ok ([], ts))) (same (item ts) (λ x after e. ap (λ r. and_then r (λ xs. done (x ∷ xs))) (many_fuel n m after (omega (arith, shrinks ts x after e)) (omega (arith, shrinks ts x after e)))))
      where
        same : (r : Read A) → ((x : A) (after : List Token) → r ≡ Ok (x, after) → one_more n x after ≡ one_more m x after) → and_then r (one_more n) ≡ and_then r (one_more m)
        same (Ok x) f = f x.0 x.1 refl
        same (Err s) f = refl

    -- one more item, in front of what is left
    pub many_next : (ts : List Token) (x : A) (after : List Token) → goes on ts ≡ true → item ts ≡ Ok (x, after) → many on item ts ≡ and_then (many on item after) (λ xs. done (x ∷ xs))
    many_next [] x after b e = absurd cc
    many_next (t ∷ ts) x after b e =
        ap (λ c. cond c (and_then (item (t ∷ ts)) (one_more (length ts))) (Ok ([], t ∷ ts))) b
        ∙ ap (λ r. and_then r (one_more (length ts))) e
        ∙ ap (λ r. and_then r (λ xs. done (x ∷ xs))) (many_fuel (length ts) (length after) after (omega (arith, shrinks (t ∷ ts) x after e)) (omega arith))

-- ---- the law

module _ {A : Type 0} {max : ℕ} {R : A → List Word → Type 0} {off : Kind → Bool} {item : Reader A} (on : Kind → Bool) (law : Law max R off item)
    (heads : (x : A) (ws : List Word) → R x ws → Headed on ws) (apart : (k : Kind) → on k ≡ true → off k ≡ false) where
  shrinks : Shrinks item
  shrinks = shrinks_by on law heads

  abbrev cons : A → List A → List A
  cons x xs = x ∷ xs

  empty_told : (ts : List Token) (r : List A × List Token) → done [] ts ≡ Ok r → Told max (Each R) ts r
  empty_told ts r e = let same : ([], ts) ≡ r = ok_same ([], ts) r e in ([], [], ap (λ (z : List A × List Token). z.1) same, tt, subst (λ (z : List A × List Token). Each R z.0 []) same refl)

  reads_at : (n : ℕ) (ts : List Token) (r : List A × List Token) → many_at on item n ts ≡ Ok r → Told max (Each R) ts r
  reads_at zero ts r e = empty_told ts r e
  reads_at (suc n) ts r e = elim (chosen (goes on ts) (and_then (item ts) (one_more on item n)) (done [] ts) (Ok r) e) [
    | inl c ↦
        let x = bind_ok (item ts) (one_more on item n) r c.1 in
        let y = bind_ok (many_at on item n x.1) (λ xs. done (cons x.0 xs)) r x.3 in
        let v = law.reads ts (x.0, x.1) x.2 in
        let w = reads_at n x.1 (y.0, y.1) y.2 in
        let same : (x.0 ∷ y.0, y.1) ≡ r = ok_same (x.0 ∷ y.0, y.1) r y.3 in
        let told : Told max (Each R) ts (x.0 ∷ y.0, y.1) = (
          v.0 ++ w.0,
          v.1 ++ w.1,
          v.2 ∙ ap (λ z. v.0 ++ z) w.2 ∙ sym (append_assoc v.0 w.0 y.1),
          spells_join max v.1 w.1 v.0 w.0 v.3 w.3,
          (v.1, w.1, refl, v.4, w.4),
        ) in
        subst (λ z. Told max (Each R) ts z) same told
    | inr c ↦ empty_told ts r c.1
  ]

  viable_at : (n : ℕ) (ts : List Token) (s : Stop) → many_at on item n ts ≡ Err s → Stopped max (Each R) ts s
  viable_at zero ts s e = absurd cc
  viable_at (suc n) ts s e = elim (chosen (goes on ts) (and_then (item ts) (one_more on item n)) (done [] ts) (Err s) e) [
    | inl c ↦ elim (bind_err (item ts) (one_more on item n) s c.1) [
      | inl h ↦ let v = law.viable ts s h in (v.0, v.1, v.2 ∷ [], v.3, v.4, v.5, (v.1 ++ v.3, [], sym (append-nil (v.1 ++ v.3)), v.6, refl), v.7)
      | inr x ↦ elim (bind_err (many_at on item n x.1) (λ xs. done (cons x.0 xs)) s x.3) [
        | inl h ↦
            let v = law.reads ts (x.0, x.1) x.2 in
            let w = viable_at n x.1 s h in (
              v.0 ++ w.0,
              v.1 ++ w.1,
              x.0 ∷ w.2,
              w.3,
              v.2 ∙ ap (λ z. v.0 ++ z) w.4 ∙ sym (append_assoc v.0 w.0 s.left),
              spells_join max v.1 w.1 v.0 w.0 v.3 w.5,
              (v.1, w.1 ++ w.3, append_assoc v.1 w.1 w.3, v.4, w.6),
              w.7,
            )
        | inr y ↦ absurd cc
      ]
    ]
    | inr c ↦ absurd cc
  ]

  less_at : (n : ℕ) (ts : List Token) → length (left_of (many_at on item n ts)) ≤ length ts
  less_at n ts = told_less max (Each R) {read = many_at on item n} (reads_at n) (viable_at n) ts

  abbrev all : Kind → Bool
  all k = on k || off k

  -- what follows an item doesn't go on it
  item_free : (xs : List A) (ws : List Word) (ks rest : List Token) → Each R xs ws → Spells max ws ks → goes all rest ≡ false → goes off (ks ++ rest) ≡ false
  item_free [] [] [] rest is a g = goes_right on off rest g
  item_free [] [] (k ∷ ks) rest is a g = absurd a
  item_free [] (w ∷ ws) ks rest is a g = absurd cc
  item_free (x ∷ xs) [] ks rest is a g = absurd (by is.0 is.1 is.2 (heads x is.0 is.3))
    where
      by : (us vs : List Word) → [] ≡ us ++ vs → Headed on us → ⊥
      by [] vs e h = h
      by (u ∷ us) vs e h = cc
  item_free (x ∷ xs) (w ∷ ws) ks rest is a g = goes_head max off false w ws ks rest (apart (kind_of w) (by is.0 is.1 is.2 (heads x is.0 is.3))) a
    where
      by : (us vs : List Word) → w ∷ ws ≡ us ++ vs → Headed on us → on (kind_of w) ≡ true
      by [] vs e h = absurd h
      by (u ∷ us) vs e h = let same : w ≡ u = cc in ap (λ z. on (kind_of z)) same ∙ h

  headed_goes : (us : List Word) (ks rest : List Token) → Headed on us → Spells max us ks → goes on (ks ++ rest) ≡ true
  headed_goes [] ks rest h a = absurd h
  headed_goes (u ∷ us) ks rest h a = goes_head max on true u us ks rest h a

  again_at : (n : ℕ) (xs : List A) (ws : List Word) (ks rest : List Token) → Each R xs ws → Spells max ws ks → goes all rest ≡ false → length (ks ++ rest) ≤ n → many_at on item n (ks ++ rest) ≡ Ok (xs, rest)
  again_at zero [] ws ks rest is a g h = ap (λ z. Ok ([], z ++ rest)) (spells_none max ks (subst (λ z. Spells max z ks) is a))
  again_at (suc n) [] ws ks rest is a g h =
      let none = spells_none max ks (subst (λ z. Spells max z ks) is a) in
      ap (λ z. many_at on item (suc n) (z ++ rest)) none ∙ ap (λ c. cond c (and_then (item rest) (one_more on item n)) (done [] rest)) (goes_left on off rest g)
  again_at n (x ∷ xs) ws ks rest is a g h =
      let s = spells_parts max is.0 is.1 ks (subst (λ z. Spells max z ks) is.2 a) in
      let same : ks ++ rest ≡ s.0 ++ (s.1 ++ rest) = ap (λ z. z ++ rest) s.2 ∙ append_assoc s.0 s.1 rest in
      let read = law.again x is.0 s.0 (s.1 ++ rest) is.3 s.3 (item_free xs is.1 s.1 rest is.4 s.4 g) in
      let first = headed_goes is.0 s.0 (s.1 ++ rest) (heads x is.0 is.3) s.3 in
      ap (many_at on item n) same ∙ fuel n (s.0 ++ (s.1 ++ rest)) (s.1 ++ rest) first read (omega (arith, ap length same)) (λ m k. again_at m xs is.1 s.1 rest is.4 s.4 g k)
    where
      fuel : (n : ℕ) (ts after : List Token) → goes on ts ≡ true → item ts ≡ Ok (x, after) → length ts ≤ n → ((m : ℕ) → length after ≤ m → many_at on item m after ≡ Ok (xs, rest)) → many_at on item n ts ≡ Ok (x ∷ xs, rest)
      fuel zero [] after b r h f = absurd cc
      fuel zero (t ∷ ts) after b r h f = absurd (omega arith)
      fuel (suc n) ts after b r h f =
          ap (λ c. cond c (and_then (item ts) (one_more on item n)) (done [] ts)) b ∙ ap (λ z. and_then z (one_more on item n)) r
          ∙ ap (λ z. and_then z (λ ys. done (cons x ys))) (f n (omega (arith, shrinks ts x after r)))

  -- an item that is begun is read
  begun : (n : ℕ) (ts rest : List Token) → goes on ts ≡ true → length ts ≤ n → length (left_of (item ts)) ≤ length rest → length (left_of (many_at on item n ts)) ≤ length rest
  begun zero [] rest b h l = absurd cc
  begun zero (t ∷ ts) rest b h l = absurd (omega arith)
  begun (suc n) ts rest b h l =
      omega (
        arith,
        l,
        ap (λ c. length (left_of (cond c (and_then (item ts) (one_more on item n)) (done [] ts)))) b,
        bind_less (item ts) (one_more on item n) (λ x us. omega (arith, bind_less (many_at on item n us) (λ xs. done (cons x xs)) (λ xs vs. omega arith), less_at n us)),
      )

  passes_at : (n : ℕ) (xs : List A) (ws more : List Word) (ks rest : List Token) → Each R xs (ws ++ more) → Spells max ws ks → length (ks ++ rest) ≤ n → length (left_of (many_at on item n (ks ++ rest))) ≤ length rest
  passes_at n xs [] more [] rest is a h = less_at n rest
  passes_at n xs [] more (k ∷ ks) rest is a h = absurd a
  passes_at n [] (w ∷ ws) more ks rest is a h = absurd cc
  passes_at n (x ∷ xs) (w ∷ ws) more ks rest is a h = elim (cut (w ∷ ws) more is.0 is.1 is.2) [
    | inl c ↦
        let s = spells_parts max is.0 c.0 ks (subst (λ z. Spells max z ks) c.1 a) in
        let same : ks ++ rest ≡ s.0 ++ (s.1 ++ rest) = ap (λ z. z ++ rest) s.2 ∙ append_assoc s.0 s.1 rest in
        omega (arith, ap (λ z. length (left_of (many_at on item n z))) same, beyond c.0 c.2 s.0 s.1 s.3 s.4 (omega (arith, ap length same)) (λ m r k2 o b l. passes_at m xs r more k2 rest o b l))
    | inr c ↦
        let head : Headed on ((w ∷ ws) ++ c.0) = subst (Headed on) c.1 (heads x is.0 is.3) in
        begun n (ks ++ rest) rest (goes_head max on true w ws ks rest head a) h (law.passes x (w ∷ ws) c.0 ks rest (subst (R x) c.1 is.3) a)
  ]
    where
      beyond : (r : List Word) → is.1 ≡ r ++ more → (k1 k2 : List Token) → Spells max is.0 k1 → Spells max r k2 → length (k1 ++ (k2 ++ rest)) ≤ n →
          ((m : ℕ) (r : List Word) (k2 : List Token) → Each R xs (r ++ more) → Spells max r k2 → length (k2 ++ rest) ≤ m → length (left_of (many_at on item m (k2 ++ rest))) ≤ length rest) → length (left_of (many_at on item n (k1 ++ (k2 ++ rest)))) ≤ length rest
      beyond [] e k1 [] a1 a2 h others =
          begun n (k1 ++ rest) rest (headed_goes is.0 k1 rest (heads x is.0 is.3) a1) h (law.passes x is.0 [] k1 rest (subst (R x) (sym (append-nil is.0)) is.3) a1)
      beyond [] e k1 (k ∷ k2) a1 a2 h others = absurd a2
      beyond (u ∷ r) e k1 k2 a1 a2 h others =
          let rest_is : Each R xs (u ∷ (r ++ more)) = subst (Each R xs) e is.4 in
          let read = law.again x is.0 k1 (k2 ++ rest) is.3 a1 (head_free u r k2 rest_is a2) in
          fuel n (k1 ++ (k2 ++ rest)) (k2 ++ rest) (headed_goes is.0 k1 (k2 ++ rest) (heads x is.0 is.3) a1) read h (λ m l. others m (u ∷ r) k2 rest_is a2 l)
        where
          head_free : (u : Word) (r : List Word) (k2 : List Token) → Each R xs (u ∷ (r ++ more)) → Spells max (u ∷ r) k2 → goes off (k2 ++ rest) ≡ false
          head_free u r k2 others a = goes_head max off false u r k2 rest (apart (kind_of u) (by xs others)) a
            where
              top : (us vs : List Word) → u ∷ (r ++ more) ≡ us ++ vs → Headed on us → on (kind_of u) ≡ true
              top [] vs e h = absurd h
              top (v ∷ us) vs e h = let same : u ≡ v = cc in ap (λ z. on (kind_of z)) same ∙ h

              by : (xs : List A) → Each R xs (u ∷ (r ++ more)) → on (kind_of u) ≡ true
              by [] o = absurd cc
              by (y ∷ ys) o = top o.0 o.1 o.2 (heads y o.0 o.3)

          fuel : (n : ℕ) (ts after : List Token) → goes on ts ≡ true → item ts ≡ Ok (x, after) → length ts ≤ n → ((m : ℕ) → length after ≤ m → length (left_of (many_at on item m after)) ≤ length rest) →
              length (left_of (many_at on item n ts)) ≤ length rest
          fuel zero [] after b r h f = absurd cc
          fuel zero (t ∷ ts) after b r h f = absurd (omega arith)
          fuel (suc n) ts after b r h f =
              omega (
                arith,
                ap (λ c. length (left_of (cond c (and_then (item ts) (one_more on item n)) (done [] ts)))) b,
                ap (λ z. length (left_of (and_then z (one_more on item n)))) r,
                bind_less (many_at on item n after) (λ ys. done (cons x ys)) (λ ys vs. omega arith),
                f n (omega (arith, shrinks ts x after r)),
              )

  pub many_law : Law max (Each R) (λ k. on k || off k) (many on item)
  many_law = record {
    reads = λ ts r e. reads_at (length ts) ts r e;
    viable = λ ts s e. viable_at (length ts) ts s e;
    again = λ xs ws ks rest is a g. again_at (length (ks ++ rest)) xs ws ks rest is a g (omega arith);
    passes = λ xs ws more ks rest is a. passes_at (length (ks ++ rest)) xs ws more ks rest is a (omega arith);
  }
