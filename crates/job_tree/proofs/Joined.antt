-- Readers one after another, one of two, and the same values in other words.
use Rattle.std.proofs.Common.{◌≡◌, ℕ, ◌≤◌, ◌<◌, Bool, true, false, cond, ◌⊎◌, inl, inr, List, [], ◌∷◌, ◌++◌, length, append_assoc, refl, ap, sym, ◌∙◌, arith, Ok, Err, subst}
use Rattle.std.proofs.lemmas.List.{append-nil}
use Rattle.job_tree.specs.declared.token.Kind.{Kind}
use Rattle.job_tree.specs.declared.token.Mark.{Mark}
use Rattle.job_tree.specs.declared.token.Token.{Token}
use Rattle.job_tree.specs.Fault.{Stop, wrong, deep}
use Rattle.job_tree.specs.Readers.{Read, Reader, and_then, ◌>>=◌, done, goes, is_mark, shut, either}
use Rattle.job_tree.specs.declared.token.Opened.{Opened}
use Rattle.job_tree.specs.Word.{Word, kind_of, level_of, Is, Spells}
use Rattle.job_tree.proofs.Lists.{ok_same, err_same, chosen, left_of, spells_join, spells_parts, spells_none, cut, head_same, not_cons, Headed, goes_head}
use Rattle.job_tree.proofs.Law.{TooMany, Told, Stopped, Law, Example, told_less, less, bind_ok, bind_err, too_many_more}

-- what follows doesn't go on: nothing, or a word that doesn't
abbrev pub Free : (Kind → Bool) → (Kind → Bool) → List Word → Type 0
Free off on [] = (k : Kind) → on k ≡ false → off k ≡ false
Free off on (w ∷ ws) = off (kind_of w) ≡ false

pub goes_free : (max : ℕ) (off on : Kind → Bool) (ws : List Word) (ks rest : List Token) → Free off on ws → Spells max ws ks → goes on rest ≡ false → goes off (ks ++ rest) ≡ false
goes_free max off on [] [] [] free a g = refl
goes_free max off on [] [] (t ∷ rest) free a g = free t.kind g
goes_free max off on [] (k ∷ ks) rest free a g = absurd a
goes_free max off on (w ∷ ws) ks rest free a g = goes_head max off false w ws ks rest free a

pub bind_less : {A B : Type 0} (r : Read A) (k : A → Reader B) → ((x : A) (ts : List Token) → length (left_of (k x ts)) ≤ length ts) → length (left_of (and_then r k)) ≤ length (left_of r)
bind_less (Ok x) k h = h x.0 x.1
bind_less (Err s) k h = omega arith

-- ---- one after another

abbrev pub Then : {A B : Type 0} → (A → List Word → Type 0) → (A → B → List Word → Type 0) → B → List Word → Type 0
Then {A = A} R Q b ws = (a : A) × (us vs : List Word) × (ws ≡ us ++ vs) × R a us × Q a b vs

module _ {A B : Type 0} (max : ℕ) {R : A → List Word → Type 0} {Q : A → B → List Word → Type 0} {off on : Kind → Bool} {p : Reader A} {k : A → Reader B}
    (lp : Law max R off p) (lk : (a : A) → Law max (Q a) on (k a)) (some : (a : A) → Example (Q a)) (free : (a : A) (b : B) (vs : List Word) → Q a b vs → Free off on vs) where
  then_reads : (ts : List Token) (r : B × List Token) → (p >>= k) ts ≡ Ok r → Told max (Then R Q) ts r
  then_reads ts r e =
      let x = bind_ok (p ts) k r e in
      let v = lp.reads ts (x.0, x.1) x.2 in
      let w = (lk x.0).reads x.1 r x.3 in
      (v.0 ++ w.0, v.1 ++ w.1, v.2 ∙ ap (λ z. v.0 ++ z) w.2 ∙ sym (append_assoc v.0 w.0 r.1), spells_join max v.1 w.1 v.0 w.0 v.3 w.3, (x.0, v.1, w.1, refl, v.4, w.4))

  then_viable : (ts : List Token) (s : Stop) → (p >>= k) ts ≡ Err s → Stopped max (Then R Q) ts s
  then_viable ts s e = elim (bind_err (p ts) k s e) [
    | inl h ↦
        let v = lp.viable ts s h in
        let w = some v.2 in
        (v.0, v.1, w.0, v.3 ++ w.1, v.4, v.5, (v.2, v.1 ++ v.3, w.1, sym (append_assoc v.1 v.3 w.1), v.6, w.2), too_many_more max s.why v.3 w.1 s.left v.7)
    | inr x ↦
        let v = lp.reads ts (x.0, x.1) x.2 in
        let w = (lk x.0).viable x.1 s x.3 in (
          v.0 ++ w.0,
          v.1 ++ w.1,
          w.2,
          w.3,
          v.2 ∙ ap (λ z. v.0 ++ z) w.4 ∙ sym (append_assoc v.0 w.0 s.left),
          spells_join max v.1 w.1 v.0 w.0 v.3 w.5,
          (x.0, v.1, w.1 ++ w.3, append_assoc v.1 w.1 w.3, v.4, w.6),
          w.7,
        )
  ]

  -- the first is read where what follows doesn't go on it
  first_read : (a : A) (us vs : List Word) (ks ls rest : List Token) → R a us → Spells max us ks → goes off (ls ++ rest) ≡ false → (p >>= k) ((ks ++ ls) ++ rest) ≡ k a (ls ++ rest)
  first_read a us vs ks ls rest is s g = ap (λ z. (p >>= k) z) (append_assoc ks ls rest) ∙ ap (λ z. and_then z k) (lp.again a us ks (ls ++ rest) is s g)

  then_again : (b : B) (ws : List Word) (ks rest : List Token) → Then R Q b ws → Spells max ws ks → goes on rest ≡ false → (p >>= k) (ks ++ rest) ≡ Ok (b, rest)
  then_again b ws ks rest t a g =
      let s = spells_parts max t.1 t.2 ks (subst (λ z. Spells max z ks) t.3 a) in
      ap (λ z. (p >>= k) (z ++ rest)) s.2
      ∙ first_read t.0 t.1 t.2 s.0 s.1 rest t.4 s.3 (goes_free max off on t.2 s.1 rest (free t.0 b t.2 t.5) s.4 g)
      ∙ (lk t.0).again b t.2 s.1 rest t.5 s.4 g

  then_less : (ts : List Token) → length (left_of ((p >>= k) ts)) ≤ length (left_of (p ts))
  then_less ts = bind_less (p ts) k (λ x l. less (lk x) l)

  then_passes : (b : B) (ws more : List Word) (ks rest : List Token) → Then R Q b (ws ++ more) → Spells max ws ks → length (left_of ((p >>= k) (ks ++ rest))) ≤ length rest
  then_passes b ws more ks rest t a = elim (cut ws more t.1 t.2 t.3) [
    | inl c ↦
        let s = spells_parts max t.1 c.0 ks (subst (λ z. Spells max z ks) c.1 a) in
        omega (arith, ap (λ z. length (left_of ((p >>= k) (z ++ rest)))) s.2, beyond c.0 c.2 s.0 s.1 s.3 s.4)
    | inr c ↦ omega (arith, then_less (ks ++ rest), lp.passes t.0 ws c.0 ks rest (subst (λ z. R t.0 z) c.1 t.4) a)
  ]
    where
      beyond : (r : List Word) → t.2 ≡ r ++ more → (k1 k2 : List Token) → Spells max t.1 k1 → Spells max r k2 → length (left_of ((p >>= k) ((k1 ++ k2) ++ rest))) ≤ length rest
      beyond [] e k1 [] a1 a2 =
          omega (
            arith,
            then_less ((k1 ++ []) ++ rest),
            ap (λ z. length (left_of (p (z ++ rest)))) (append-nil k1),
            lp.passes t.0 t.1 [] k1 rest (subst (λ z. R t.0 z) (sym (append-nil t.1)) t.4) a1,
          )
      beyond [] e k1 (l ∷ k2) a1 a2 = absurd a2
      beyond (w ∷ r) e k1 k2 a1 a2 =
          let head : off (kind_of w) ≡ false = subst (λ z. Free off on z) e (free t.0 b t.2 t.5) in
          let read = first_read t.0 t.1 t.2 k1 k2 rest t.4 a1 (goes_head max off false w r k2 rest head a2) in
          omega (arith, ap (λ z. length (left_of z)) read, (lk t.0).passes b (w ∷ r) more k2 rest (subst (λ z. Q t.0 b z) e t.5) a2)

  pub then_law : Law max (Then R Q) on (p >>= k)
  then_law = record { reads = then_reads; viable = then_viable; again = then_again; passes = then_passes }

-- ---- the last of a chain

abbrev pub Last : {A B : Type 0} → (A → List Word → Type 0) → (A → B) → B → List Word → Type 0
Last {A = A} R f b ws = (a : A) × R a ws × (f a ≡ b)

module _ {A B : Type 0} {max : ℕ} {R : A → List Word → Type 0} {on : Kind → Bool} {p : Reader A} (lp : Law max R on p) (f : A → B) where
  abbrev give : A → Reader B
  give a = done (f a)

  pub last_law : Law max (Last R f) on (p >>= λ a. done (f a))
  last_law = record {
    reads = λ ts r e.
        let x = bind_ok (p ts) give r e in
        let v = lp.reads ts (x.0, x.1) x.2 in
        let same : (f x.0, x.1) ≡ r = ok_same (f x.0, x.1) r x.3 in
        (v.0, v.1, v.2 ∙ ap (λ (z : B × List Token). v.0 ++ z.1) same, v.3, (x.0, v.4, ap (λ (z : B × List Token). z.0) same));
    viable = λ ts s e. elim (bind_err (p ts) give s e) [
      | inl h ↦ let v = lp.viable ts s h in (v.0, v.1, f v.2, v.3, v.4, v.5, (v.2, v.6, refl), v.7)
      | inr x ↦ absurd cc
    ];
    again = λ b ws ks rest t a g. ap (λ z. and_then z give) (lp.again t.0 ws ks rest t.1 a g) ∙ ap (λ z. Ok (z, rest)) t.2;
    passes = λ b ws more ks rest t a. omega (arith, bind_less (p (ks ++ rest)) give (λ x l. omega arith), lp.passes t.0 ws more ks rest t.1 a);
  }

abbrev pub Ends : {B : Type 0} → B → B → List Word → Type 0
Ends b x ws = (b ≡ x) × (ws ≡ [])

pub end_law : {B : Type 0} (max : ℕ) (on : Kind → Bool) (b : B) → Law max (Ends b) on (done b)
end_law {B = B} max on b = record {
  reads = λ ts r e. let same : (b, ts) ≡ r = ok_same (b, ts) r e in ([], [], ap (λ (z : B × List Token). z.1) same, tt, (ap (λ (z : B × List Token). z.0) same, refl));
  viable = λ ts s e. absurd cc;
  again = λ x ws ks rest is a g. let none = spells_none max ks (subst (λ z. Spells max z ks) is.1 a) in ap (λ z. Ok (b, z ++ rest)) none ∙ ap (λ z. Ok (z, rest)) is.0;
  passes = λ x ws more ks rest is a. by ws more ks rest is.1 a;
}
  where
    by : (ws more : List Word) (ks rest : List Token) → ws ++ more ≡ [] → Spells max ws ks → length (ks ++ rest) ≤ length rest
    by [] more [] rest e a = omega arith
    by [] more (k ∷ ks) rest e a = absurd a
    by (w ∷ ws) more ks rest e a = absurd cc

-- ---- one of two, by the first token

abbrev pub Either : {A : Type 0} → (A → List Word → Type 0) → (A → List Word → Type 0) → A → List Word → Type 0
Either R T x ws = R x ws ⊎ T x ws

module _ {A : Type 0} {max : ℕ} {R T : A → List Word → Type 0} {on : Kind → Bool} {p q : Reader A} (first : Kind → Bool) (lp : Law max R on p) (lq : Law max T on q)
    (heads : (x : A) (ws : List Word) → R x ws → Headed first ws) (free : (x : A) (ws : List Word) → T x ws → Free first on ws) where
  either_reads : (ts : List Token) (r : A × List Token) → either first p q ts ≡ Ok r → Told max (Either R T) ts r
  either_reads ts r e = elim (chosen (goes first ts) (p ts) (q ts) (Ok r) e) [
    | inl c ↦ let v = lp.reads ts r c.1 in (v.0, v.1, v.2, v.3, inl v.4)
    | inr c ↦ let v = lq.reads ts r c.1 in (v.0, v.1, v.2, v.3, inr v.4)
  ]

  either_viable : (ts : List Token) (s : Stop) → either first p q ts ≡ Err s → Stopped max (Either R T) ts s
  either_viable ts s e = elim (chosen (goes first ts) (p ts) (q ts) (Err s) e) [
    | inl c ↦ let v = lp.viable ts s c.1 in (v.0, v.1, v.2, v.3, v.4, v.5, inl v.6, v.7)
    | inr c ↦ let v = lq.viable ts s c.1 in (v.0, v.1, v.2, v.3, v.4, v.5, inr v.6, v.7)
  ]

  goes_first : (ws more : List Word) (ks rest : List Token) → Headed first (ws ++ more) → (ws ≡ [] → ⊥) → Spells max ws ks → goes first (ks ++ rest) ≡ true
  goes_first [] more ks rest h n a = absurd (n refl)
  goes_first (w ∷ ws) more ks rest h n a = goes_head max first true w ws ks rest h a

  either_again : (x : A) (ws : List Word) (ks rest : List Token) → Either R T x ws → Spells max ws ks → goes on rest ≡ false → either first p q (ks ++ rest) ≡ Ok (x, rest)
  either_again x ws ks rest (inl is) a g =
      let h : Headed first (ws ++ []) = subst (Headed first) (sym (append-nil ws)) (heads x ws is) in
      ap (λ c. cond c (p (ks ++ rest)) (q (ks ++ rest))) (goes_first ws [] ks rest h (λ e. subst (Headed first) e (heads x ws is)) a) ∙ lp.again x ws ks rest is a g
  either_again x ws ks rest (inr is) a g =
      ap (λ c. cond c (p (ks ++ rest)) (q (ks ++ rest))) (goes_free max first on ws ks rest (free x ws is) a g) ∙ lq.again x ws ks rest is a g

  either_passes : (x : A) (ws more : List Word) (ks rest : List Token) → Either R T x (ws ++ more) → Spells max ws ks → length (left_of (either first p q (ks ++ rest))) ≤ length rest
  either_passes x [] more [] rest is a = told_less max (Either R T) {read = either first p q} either_reads either_viable rest
  either_passes x [] more (k ∷ ks) rest is a = absurd a
  either_passes x (w ∷ ws) more ks rest (inl is) a =
      let h = goes_head max first true w ws ks rest (heads x (w ∷ (ws ++ more)) is) a in
      omega (arith, ap (λ c. length (left_of (cond c (p (ks ++ rest)) (q (ks ++ rest))))) h, lp.passes x (w ∷ ws) more ks rest is a)
  either_passes x (w ∷ ws) more ks rest (inr is) a =
      let h = goes_head max first false w ws ks rest (free x (w ∷ (ws ++ more)) is) a in
      omega (arith, ap (λ c. length (left_of (cond c (p (ks ++ rest)) (q (ks ++ rest))))) h, lq.passes x (w ∷ ws) more ks rest is a)

  pub either_law : Law max (Either R T) on (either first p q)
  either_law = record { reads = either_reads; viable = either_viable; again = either_again; passes = either_passes }

-- ---- a level too many

module _ {B : Type 0} (max : ℕ) (m : Mark) (k : Opened → Reader B) (S : B → List Word → Type 0) (on : Kind → Bool)
    (high : (b : B) (ws : List Word) → S b ws → (w : Word) × (vs : List Word) × (ws ≡ w ∷ vs) × (max < level_of w))
    (some : (t : Token) → is_mark m t.kind ≡ true → (b : B) × (w : Word) × (vs : List Word) × S b (w ∷ vs) × Is w t × (max < level_of w))
    (other : Example S) where
  refused : Stop → Read B
  refused s = Err s

  shut_reads : (ts : List Token) (r : B × List Token) → (shut m >>= k) ts ≡ Ok r → Told max S ts r
  shut_reads ts r e = by (goes (is_mark m) ts) e
    where
      by : (c : Bool) → and_then (cond c (Err (deep ts)) (Err (wrong ts))) k ≡ Ok r → Told max S ts r
      by true e = absurd cc
      by false e = absurd cc

  wrong_stops : (ts : List Token) (s : Stop) → wrong ts ≡ s → Stopped max S ts s
  wrong_stops ts s e = ([], [], other.0, other.1, ap (λ (z : Stop). z.left) e, tt, other.2, subst (λ (z : Stop). TooMany max z.why other.1 z.left) e tt)

  shut_viable : (ts : List Token) (s : Stop) → (shut m >>= k) ts ≡ Err s → Stopped max S ts s
  shut_viable [] s e = wrong_stops [] s (err_same {B = B × List Token} (wrong []) s e)
  shut_viable (t ∷ ts) s e = by (is_mark m t.kind) refl e
    where
      by : (c : Bool) → is_mark m t.kind ≡ c → and_then (cond c (Err (deep (t ∷ ts))) (Err (wrong (t ∷ ts)))) k ≡ Err s → Stopped max S (t ∷ ts) s
      by true h e =
          let v = some t h in
          let same : deep (t ∷ ts) ≡ s = err_same {B = B × List Token} (deep (t ∷ ts)) s e in
          ([], [], v.0, v.1 ∷ v.2, ap (λ (z : Stop). z.left) same, tt, v.3, subst (λ (z : Stop). TooMany max z.why (v.1 ∷ v.2) z.left) same (v.4, v.5))
      by false h e = wrong_stops (t ∷ ts) s (err_same {B = B × List Token} (wrong (t ∷ ts)) s e)

  too_high : (b : B) (us : List Word) (w : Word) (ws : List Word) → S b us → us ≡ w ∷ ws → level_of w ≤ max → ⊥
  too_high b us w ws is e h = let v = high b us is in omega (arith, v.3, h, ap level_of (head_same v.0 w v.1 ws (sym v.2 ∙ e)))

  shut_again : (b : B) (ws : List Word) (ks rest : List Token) → S b ws → Spells max ws ks → goes on rest ≡ false → (shut m >>= k) (ks ++ rest) ≡ Ok (b, rest)
  shut_again b [] ks rest is a g = let v = high b [] is in absurd (not_cons v.0 v.1 v.2)
  shut_again b (w ∷ ws) [] rest is a g = absurd a
  shut_again b (w ∷ ws) (t ∷ ks) rest is a g = absurd (too_high b (w ∷ ws) w ws is refl a.1)

  shut_passes : (b : B) (ws more : List Word) (ks rest : List Token) → S b (ws ++ more) → Spells max ws ks → length (left_of ((shut m >>= k) (ks ++ rest))) ≤ length rest
  shut_passes b [] more [] rest is a = told_less max S {read = shut m >>= k} shut_reads shut_viable rest
  shut_passes b [] more (t ∷ ks) rest is a = absurd a
  shut_passes b (w ∷ ws) more [] rest is a = absurd a
  shut_passes b (w ∷ ws) more (t ∷ ks) rest is a = absurd (too_high b (w ∷ (ws ++ more)) w (ws ++ more) is refl a.1)

  pub shut_law : Law max S on (shut m >>= k)
  shut_law = record { reads = shut_reads; viable = shut_viable; again = shut_again; passes = shut_passes }

-- ---- in other words

pub worded : {A : Type 0} {max : ℕ} {R S : A → List Word → Type 0} {on : Kind → Bool} {read : Reader A} → Law max R on read → ((x : A) (ws : List Word) → R x ws → S x ws) → ((x : A) (ws : List Word) → S x ws → R x ws) → Law max S on read
worded law to from = record {
  reads = λ ts r e. let v = law.reads ts r e in (v.0, v.1, v.2, v.3, to r.0 v.1 v.4);
  viable = λ ts s e. let v = law.viable ts s e in (v.0, v.1, v.2, v.3, v.4, v.5, to v.2 (v.1 ++ v.3) v.6, v.7);
  again = λ x ws ks rest is a g. law.again x ws ks rest (from x ws is) a g;
  passes = λ x ws more ks rest is a. law.passes x ws more ks rest (from x (ws ++ more) is) a;
}

-- more tokens with which a value may go on
pub wider : {A : Type 0} {max : ℕ} {R : A → List Word → Type 0} {off : Kind → Bool} (on : Kind → Bool) {read : Reader A} → Law max R off read → ((k : Kind) → on k ≡ false → off k ≡ false) → Law max R on read
wider {off = off} on law h = record {
  reads = law.reads;
  viable = law.viable;
  again = λ x ws ks rest is a g. law.again x ws ks rest is a (by rest g);
  passes = law.passes;
}
  where
    by : (rest : List Token) → goes on rest ≡ false → goes off rest ≡ false
    by [] g = refl
    by (t ∷ rest) g = h t.kind g

-- a reader that reads the same
pub alike : {A : Type 0} {max : ℕ} {R : A → List Word → Type 0} {on : Kind → Bool} {p q : Reader A} → ((ts : List Token) → q ts ≡ p ts) → Law max R on p → Law max R on q
alike same law = record {
  reads = λ ts r e. law.reads ts r (sym (same ts) ∙ e);
  viable = λ ts s e. law.viable ts s (sym (same ts) ∙ e);
  again = λ x ws ks rest is a g. same (ks ++ rest) ∙ law.again x ws ks rest is a g;
  passes = λ x ws more ks rest is a. omega (arith, ap (λ r. length (left_of r)) (same (ks ++ rest)), law.passes x ws more ks rest is a);
}
