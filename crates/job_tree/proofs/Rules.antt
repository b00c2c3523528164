-- Rules of the grammar at every number of levels, and the forms that a rule's chain is made of.
use Rattle.std.proofs.Common.{◌≡◌, ℕ, zero, suc, ◌≤◌, ◌<◌, ◌-◌, Bool, true, false, cond, inl, inr, List, [], ◌∷◌, ◌++◌, length, refl, ap, sym, ◌∙◌, arith, Option, Some, None, Ok, Err, subst}
use Rattle.std.specs.Prelude.{◌||◌}
use Rattle.job_tree.specs.declared.token.Kind.{Kind}
use Rattle.job_tree.specs.declared.token.Kind.TheVariants as kinds
use Rattle.job_tree.specs.declared.token.Mark.{Mark}
use Rattle.job_tree.specs.declared.token.Token.{Token}
use Rattle.job_tree.specs.Fault.{Why, Wrong, Deep, Stop, wrong, deep}
use Rattle.job_tree.specs.Readers.{Read, Reader, and_then, ◌>>=◌, done, taken, one, goes, is_mark, mark_of, mark_at, shut, opened_of, open_at, either, many_at, many, optional}
use Rattle.job_tree.specs.declared.token.Opened.{Opened}
use Rattle.job_tree.specs.Word.{Word, Marked, kind_of, level_of, Is, Placed}
use Rattle.job_tree.proofs.Lists.{some_same, chosen, Headed}
use Rattle.job_tree.proofs.Law.{Law, Example, one_law}
use Rattle.job_tree.proofs.Joined.{Free, Then, then_law, Last, last_law, Ends, end_law, Either, either_law, shut_law, worded, wider, alike}
use Rattle.job_tree.proofs.Many.{Each, many_law, or_left, or_right}
use Rattle.job_tree.proofs.Marks.{is_mark_same, is_mark_itself}

-- nothing goes on
abbrev pub never : Kind → Bool
never x = false

-- What is read with more levels, by what is read with fewer: the same, and the same token is wrong.
abbrev pub ByWhy : {A : Type 0} → Why → Stop → Read A → Type 0
ByWhy Wrong s r = r ≡ Err s
ByWhy Deep s r = Unit {0}

abbrev pub By : {A : Type 0} → Read A → Read A → Type 0
By (Ok x) r = r ≡ Ok x
By (Err s) r = ByWhy s.why s r

-- R: which values are spelled by which words, by the number of open levels; at: the reader, by the number that may still be opened, below k
pub record Rule {A : Type 0} (k : ℕ) (R : ℕ → A → List Word → Type 0) (on : Kind → Bool) (at : ℕ → Reader A) : Type 0 where
  pub some : (o : ℕ) → Example (R o)
  pub law : (max o n : ℕ) → n < k → n ≡ max - o → Law max (R o) on (at n)
  pub grows : (n m : ℕ) → n < k → n ≤ m → (ts : List Token) → By (at n ts) (at m ts)

by_then : {A B : Type 0} (r r' : Read A) (p q : A → Reader B) → By r r' → ((a : A) (ts : List Token) → By (p a ts) (q a ts)) → By (and_then r p) (and_then r' q)
by_then {B = B} (Ok x) r' p q e h = let P : Read B → Type 0 = λ z. By (p x.0 x.1) z in subst P (ap (λ z. and_then z q) (sym e)) (h x.0 x.1)
by_then (Err s) r' p q e h = why s.why e
  where
    why : (w : Why) → ByWhy w s r' → ByWhy w s (and_then r' q)
    why Wrong e = ap (λ z. and_then z q) e
    why Deep e = tt

by_same : {A : Type 0} (r : Read A) → By r r
by_same (Ok x) = refl
by_same {A = A} (Err s) = why s.why
  where
    why : (w : Why) → ByWhy {A = A} w s (Err s)
    why Wrong = refl
    why Deep = tt

by_if : {A : Type 0} (c : Bool) (p q p' q' : Read A) → By p p' → By q q' → By (cond c p q) (cond c p' q')
by_if true p q p' q' a b = a
by_if false p q p' q' a b = b

-- ---- one token, and then what it gives

-- f takes the tokens that w says
pub record Single {A : Type 0} (f : Token → Option A) (w : A → Word) : Type 0 where
  pub some : A
  pub back : (t : Token) (x : A) → f t ≡ Some x → Is (w x) t
  pub there : (t : Token) (x : A) → Is (w x) t → f t ≡ Some x
  pub flat : (x : A) → level_of (w x) ≡ 0

abbrev pub Kept : {A B : Type 0} → (A → Word) → (A → B → List Word → Type 0) → B → List Word → Type 0
Kept {A = A} w Q b ws = (a : A) × (vs : List Word) × (ws ≡ w a ∷ vs) × Q a b vs

abbrev pub Skipped : {B : Type 0} → Word → (B → List Word → Type 0) → B → List Word → Type 0
Skipped w Q b ws = (vs : List Word) × (ws ≡ w ∷ vs) × Q b vs

pub keep : {A B : Type 0} {k : ℕ} {f : Token → Option A} {w : A → Word} {Q : A → ℕ → B → List Word → Type 0} {on : Kind → Bool} {next : A → ℕ → Reader B} →
    Single f w → ((a : A) → Rule k (Q a) on (next a)) → Rule k (λ o. Kept w (λ a. Q a o)) on (λ n. one f >>= λ a. next a n)
keep {A = A} {f = f} {w = w} {Q = Q} {on = on} {next = next} single rule = record {
  some = λ o. let e = (rule single.some).some o in (e.0, w single.some ∷ e.1, (single.some, e.1, refl, e.2));
  law = λ max o n h e. one_law max f (λ a. next a n) (Kept w (λ a. Q a o)) (λ a. Q a o)
      (λ b ws is. (w is.0, is.1, is.2, λ t at fits. (is.0, single.there t is.0 at, is.3)))
      (λ t x at. (w x, single.back t x at, omega (arith, single.flat x), λ b vs q. (x, vs, refl, q)))
      (λ a. (rule a).law max o n h e)
      (let e = (rule single.some).some o in (e.0, w single.some ∷ e.1, (single.some, e.1, refl, e.2)));
  grows = λ n m h l ts. by_then (one f ts) (one f ts) (λ a. next a n) (λ a. next a m) (by_same (one f ts)) (λ a us. (rule a).grows n m h l us);
}

mark_taken : (m : Mark) (t : Token) (x : ℕ) → mark_of m t ≡ Some x → (t.kind ≡ kinds.Mark m) × (t.at ≡ x)
mark_taken m t x e = elim (chosen (is_mark m t.kind) (Some t.at) None (Some x) e) [ inl c ↦ (is_mark_same m t.kind c.0, some_same t.at x c.1) | inr c ↦ absurd cc ]

mark_takes : {A : Type 0} (m : Mark) (t : Token) (x : A) → t.kind ≡ kinds.Mark m → cond (is_mark m t.kind) (Some x) None ≡ Some x
mark_takes m t x e = ap (λ c. cond c (Some x) None) (ap (is_mark m) e ∙ is_mark_itself m)

pub mark_single : (m : Mark) → Single (mark_of m) (λ at. Marked m (Some at) 0)
mark_single m = record {
  some = 0;
  back = λ t x e. let v = mark_taken m t x e in record { kind = v.0; place = v.1 };
  there = λ t x is. mark_takes m t t.at is.kind ∙ ap (λ z. Some z) is.place;
  flat = λ x. refl;
}

-- a mark that the tree has the place of
pub mark : {B : Type 0} {k : ℕ} (m : Mark) {Q : ℕ → ℕ → B → List Word → Type 0} {on : Kind → Bool} {next : ℕ → ℕ → Reader B} →
    ((a : ℕ) → Rule k (Q a) on (next a)) → Rule k (λ o. Kept (λ at. Marked m (Some at) 0) (λ a. Q a o)) on (λ n. mark_at m >>= λ a. next a n)
unfolding mark_at
mark m rule = keep (mark_single m) rule

-- a mark alone
pub skip : {B : Type 0} {k : ℕ} (m : Mark) {Q : ℕ → B → List Word → Type 0} {on : Kind → Bool} {next : ℕ → ℕ → Reader B} →
    ((a : ℕ) → Rule k Q on (next a)) → Rule k (λ o. Skipped (Marked m None 0) (Q o)) on (λ n. mark_at m >>= λ a. next a n)
unfolding mark_at
skip m {Q = Q} {next = next} rule = record {
  some = λ o. let e = (rule 0).some o in (e.0, Marked m None 0 ∷ e.1, (e.1, refl, e.2));
  law = λ max o n h e. one_law max (mark_of m) (λ a. next a n) (Skipped (Marked m None 0) (Q o)) (λ a. Q o)
      (λ b ws is. (Marked m None 0, is.0, is.1, λ t at fits. (t.at, mark_takes m t t.at at.kind, is.2)))
      (λ t x at. (Marked m None 0, record { kind = (mark_taken m t x at).0; place = tt }, omega arith, λ b vs q. (vs, refl, q)))
      (λ a. (rule a).law max o n h e)
      (let e = (rule 0).some o in (e.0, Marked m None 0 ∷ e.1, (e.1, refl, e.2)));
  grows = λ n m' h l ts. by_then (one (mark_of m) ts) (one (mark_of m) ts) (λ a. next a n) (λ a. next a m') (by_same (one (mark_of m) ts)) (λ a us. (rule a).grows n m' h l us);
}

-- ---- a mark that opens a level

module _ {B : Type 0} (k below : ℕ) (deeper : k ≤ suc below) (m : Mark) (place : ℕ → Option ℕ) (placed : (at : ℕ) → Placed (place at) at) (Q : ℕ → ℕ → B → List Word → Type 0) (on : Kind → Bool) (next : Opened → ℕ → Reader B)
    (move : (a b o : ℕ) (x : B) (vs : List Word) → Placed (place a) b → Q a o x vs → Q b o x vs)
    (rule : (at : ℕ) → Rule below (Q at) on (λ n. next (record { at = at; left = n }) (suc n))) where
  abbrev pub Open : ℕ → B → List Word → Type 0
  Open o b ws = (at : ℕ) × (vs : List Word) × (ws ≡ Marked m (place at) (suc o) ∷ vs) × Q at (suc o) b vs

  open_some : (o at : ℕ) → (b : B) × (vs : List Word) × Open o b (Marked m (place at) (suc o) ∷ vs)
  open_some o at = let e = (rule at).some (suc o) in (e.0, e.1, (at, e.1, refl, e.2))

  open_example : (o : ℕ) → Example (Open o)
  open_example o = let e = open_some o 0 in (e.0, Marked m (place 0) (suc o) ∷ e.1, e.2)

  -- a mark is taken alike with and without the levels that are left
  open_same : (n : ℕ) (ts : List Token) → (one (opened_of n m) >>= λ z. next z (suc n)) ts ≡ (one (mark_of m) >>= λ at. next (record { at = at; left = n }) (suc n)) ts
  open_same n [] = refl
  open_same n (t ∷ ts) = by (is_mark m t.kind)
    where
      by : (c : Bool) → and_then (taken (cond c (Some (record { at = t.at; left = n })) None) t ts) (λ z. next z (suc n)) ≡ and_then (taken (cond c (Some t.at) None) t ts) (λ at. next (record { at = at; left = n }) (suc n))
      by true = refl
      by false = refl

  open_law : (max o n : ℕ) → n < k → n ≡ max - o → Law max (Open o) on (open_at n m >>= λ z. next z n)
  unfolding open_at
  open_law max o zero h e = shut_law max m (λ z. next z 0) (Open o) on
      (λ b ws is. (Marked m (place is.0) (suc o), is.1, is.2, omega (arith, e)))
      (λ t c. let s = open_some o t.at in (s.0, Marked m (place t.at) (suc o), s.1, s.2, record { kind = is_mark_same m t.kind c; place = placed t.at }, omega (arith, e)))
      (open_example o)
  open_law max o (suc n) h e = alike (open_same n)
      (one_law max (mark_of m) (λ at. next (record { at = at; left = n }) (suc n)) (Open o) (λ at. Q at (suc o))
      (λ b ws is. (Marked m (place is.0) (suc o), is.1, is.2, λ t at fits. (t.at, mark_takes m t t.at at.kind, move is.0 t.at (suc o) b is.1 at.place is.3)))
      (λ t x at. let v = mark_taken m t x at in (Marked m (place x) (suc o), record { kind = v.0; place = subst (λ z. Placed (place z) t.at) v.1 (placed t.at) }, omega (arith, e), λ b vs q. (x, vs, refl, q)))
      (λ at. (rule at).law max (suc o) n (omega (arith, h, deeper)) (omega (arith, e)))
      (open_example o))

  grows_shut : (n : ℕ) (ts : List Token) → By ((shut m >>= λ z. next z 0) ts) ((one (opened_of n m) >>= λ z. next z (suc n)) ts)
  grows_shut n [] = refl
  grows_shut n (t ∷ ts) = by (is_mark m t.kind)
    where
      by : (c : Bool) → By (and_then (cond c (Err (deep (t ∷ ts))) (Err (wrong (t ∷ ts)))) (λ z. next z 0)) (and_then (taken (cond c (Some (record { at = t.at; left = n })) None) t ts) (λ z. next z (suc n)))
      by true = tt
      by false = refl

  grows_open : (n l : ℕ) → suc n < k → n ≤ l → (ts : List Token) → By ((one (opened_of n m) >>= λ z. next z (suc n)) ts) ((one (opened_of l m) >>= λ z. next z (suc l)) ts)
  grows_open n l h i [] = refl
  grows_open n l h i (t ∷ ts) = by (is_mark m t.kind)
    where
      by : (c : Bool) → By (and_then (taken (cond c (Some (record { at = t.at; left = n })) None) t ts) (λ z. next z (suc n))) (and_then (taken (cond c (Some (record { at = t.at; left = l })) None) t ts) (λ z. next z (suc l)))
      by true = (rule t.at).grows n l (omega (arith, h, deeper)) i ts
      by false = refl

  open_grows : (n l : ℕ) → n < k → n ≤ l → (ts : List Token) → By ((open_at n m >>= λ z. next z n) ts) ((open_at l m >>= λ z. next z l) ts)
  unfolding open_at
  open_grows zero zero h i ts = by_same ((shut m >>= λ z. next z 0) ts)
  open_grows zero (suc l) h i ts = grows_shut l ts
  open_grows (suc n) zero h i ts = absurd (omega arith)
  open_grows (suc n) (suc l) h i ts = grows_open n l h (omega arith) ts

  pub open_rule : Rule k Open on (λ n. open_at n m >>= λ z. next z n)
  open_rule = record { some = open_example; law = open_law; grows = open_grows }

-- ---- the forms of a chain

-- the same values in other words
pub in_words : {A : Type 0} {k : ℕ} {R S : ℕ → A → List Word → Type 0} {on : Kind → Bool} {at : ℕ → Reader A} → Rule k R on at →
    ((o : ℕ) (x : A) (ws : List Word) → R o x ws → S o x ws) → ((o : ℕ) (x : A) (ws : List Word) → S o x ws → R o x ws) → Rule k S on at
in_words rule to from = record {
  some = λ o. let e = rule.some o in (e.0, e.1, to o e.0 e.1 e.2);
  law = λ max o n h e. worded (rule.law max o n h e) (to o) (from o);
  grows = rule.grows;
}

-- a bracket that the tree has the place of
pub opened : {B : Type 0} {k below : ℕ} → k ≤ suc below → (m : Mark) {Q : ℕ → ℕ → B → List Word → Type 0} {on : Kind → Bool} (next : Opened → ℕ → Reader B) →
    ((at : ℕ) → Rule below (Q at) on (λ n. next (record { at = at; left = n }) (suc n))) → Rule k (λ o. Kept (λ at. Marked m (Some at) (suc o)) (λ at. Q at (suc o))) on (λ n. open_at n m >>= λ z. next z n)
opened {k = k} {below = below} deeper m {Q = Q} {on = on} next rule =
    open_rule k below deeper m (λ at. Some at) (λ at. refl) Q on next (λ a b o x vs e q. subst (λ z. Q z o x vs) (sym e) q) rule

-- a bracket alone
pub bracket : {B : Type 0} {k below : ℕ} → k ≤ suc below → (m : Mark) {Q : ℕ → B → List Word → Type 0} {on : Kind → Bool} (next : Opened → ℕ → Reader B) →
    ((at : ℕ) → Rule below Q on (λ n. next (record { at = at; left = n }) (suc n))) → Rule k (λ o. Skipped (Marked m None (suc o)) (Q (suc o))) on (λ n. open_at n m >>= λ z. next z n)
bracket {k = k} {below = below} deeper m {Q = Q} {on = on} next rule =
    in_words (open_rule k below deeper m (λ at. None) (λ at. tt) (λ at. Q) on next (λ a b o x vs e q. q) rule) (λ o x ws is. (is.1, is.2, is.3)) (λ o x ws is. (0, is.0, is.1, is.2))

pub then : {A B : Type 0} {k : ℕ} {R : ℕ → A → List Word → Type 0} {Q : A → ℕ → B → List Word → Type 0} {off on : Kind → Bool} {at : ℕ → Reader A} {next : A → ℕ → Reader B} →
    Rule k R off at → ((a : A) → Rule k (Q a) on (next a)) → ((o : ℕ) (a : A) (b : B) (vs : List Word) → Q a o b vs → Free off on vs) →
    Rule k (λ o. Then (R o) (λ a. Q a o)) on (λ n. at n >>= λ a. next a n)
then {at = at} {next = next} first rule free = record {
  some = λ o. let a = first.some o in let b = (rule a.0).some o in (b.0, a.1 ++ b.1, (a.0, a.1, b.1, refl, a.2, b.2));
  law = λ max o n h e. then_law max (first.law max o n h e) (λ a. (rule a).law max o n h e) (λ a. (rule a).some o) (free o);
  grows = λ n m h l ts. by_then (at n ts) (at m ts) (λ a. next a n) (λ a. next a m) (first.grows n m h l ts) (λ a us. (rule a).grows n m h l us);
}

-- the last of a chain
pub last : {A B : Type 0} {k : ℕ} {R : ℕ → A → List Word → Type 0} {on : Kind → Bool} {at : ℕ → Reader A} → Rule k R on at → (f : A → B) → Rule k (λ o. Last (R o) f) on (λ n. at n >>= λ a. done (f a))
last {at = at} rule f = record {
  some = λ o. let e = rule.some o in (f e.0, e.1, (e.0, e.2, refl));
  law = λ max o n h e. last_law (rule.law max o n h e) f;
  grows = λ n m h l ts. by_then (at n ts) (at m ts) (λ a. done (f a)) (λ a. done (f a)) (rule.grows n m h l ts) (λ a us. refl);
}

-- nothing more
pub end : {B : Type 0} {k : ℕ} {on : Kind → Bool} (b : B) → Rule k (λ o. Ends b) on (λ n. done b)
end {on = on} b = record { some = λ o. (b, [], (refl, refl)); law = λ max o n h e. end_law max on b; grows = λ n m h l ts. refl }

-- one of two, by the first token
pub choice : {A : Type 0} {k : ℕ} {R T : ℕ → A → List Word → Type 0} {on : Kind → Bool} {p q : ℕ → Reader A} (first : Kind → Bool) → Rule k R on p → Rule k T on q →
    ((o : ℕ) (x : A) (ws : List Word) → R o x ws → Headed first ws) → ((o : ℕ) (x : A) (ws : List Word) → T o x ws → Free first on ws) → Rule k (λ o. Either (R o) (T o)) on (λ n. either first (p n) (q n))
choice {p = p} {q = q} first left right heads free = record {
  some = λ o. let e = left.some o in (e.0, e.1, inl e.2);
  law = λ max o n h e. either_law first (left.law max o n h e) (right.law max o n h e) (heads o) (free o);
  grows = λ n m h l ts. by_if (goes first ts) (p n ts) (q n ts) (p m ts) (q m ts) (left.grows n m h l ts) (right.grows n m h l ts);
}

-- more tokens with which a value may go on
pub widen : {A : Type 0} {k : ℕ} {R : ℕ → A → List Word → Type 0} {off on : Kind → Bool} {at : ℕ → Reader A} → Rule k R off at → ((x : Kind) → on x ≡ false → off x ≡ false) → Rule k R on at
widen {on = on} rule h = record { some = rule.some; law = λ max o n i e. wider on (rule.law max o n i e) h; grows = rule.grows }

-- items one after another
module _ {A : Type 0} {k : ℕ} {R : ℕ → A → List Word → Type 0} {off : Kind → Bool} {at : ℕ → Reader A} (on : Kind → Bool) (rule : Rule k R off at)
    (heads : (o : ℕ) (x : A) (ws : List Word) → R o x ws → Headed on ws) (apart : (x : Kind) → on x ≡ true → off x ≡ false) where
  grows_at : (f n m : ℕ) → n < k → n ≤ m → (ts : List Token) → By (many_at on (at n) f ts) (many_at on (at m) f ts)
  grows_at zero n m h l ts = refl
  grows_at (suc f) n m h l ts = by_if (goes on ts) (and_then (at n ts) (more n)) (done [] ts) (and_then (at m ts) (more m)) (done [] ts)
      (by_then (at n ts) (at m ts) (more n) (more m) (rule.grows n m h l ts) (λ x us. by_then (many_at on (at n) f us) (many_at on (at m) f us) (λ xs. done (x ∷ xs)) (λ xs. done (x ∷ xs)) (grows_at f n m h l us) (λ xs vs. refl)))
      refl
    where
      more : ℕ → A → Reader (List A)
      more i x = many_at on (at i) f >>= λ xs. done (x ∷ xs)

  pub items : Rule k (λ o. Each (R o)) (λ x. on x || off x) (λ n. many on (at n))
  items = record {
    some = λ o. ([], [], refl);
    law = λ max o n h e. many_law on (rule.law max o n h e) (heads o) apart;
    grows = λ n m h l ts. grows_at (length ts) n m h l ts;
  }

-- ---- one that may be missing

abbrev pub Maybe : {A : Type 0} → (A → List Word → Type 0) → Option A → List Word → Type 0
Maybe R (Some x) ws = R x ws
Maybe R None ws = ws ≡ []

abbrev some_of : {A : Type 0} → A → Option A
some_of x = Some x

abbrev none_of : {A : Type 0} → Option A
none_of = None

pub maybe : {A : Type 0} {k : ℕ} {R : ℕ → A → List Word → Type 0} {off : Kind → Bool} {at : ℕ → Reader A} (first : Kind → Bool) → Rule k R off at → ((o : ℕ) (x : A) (ws : List Word) → R o x ws → Headed first ws) →
    Rule k (λ o. Maybe (R o)) (λ x. first x || off x) (λ n. optional first (at n))
maybe {A = A} {R = R} {off = off} first rule heads = in_words
    (choice first (last (widen rule (λ x e. or_right (first x) (off x) e)) (λ x. some_of x)) (end none_of)
    (λ o x ws is. heads o is.0 ws is.1)
    (λ o x ws is. subst (Free first (λ x. first x || off x)) (sym is.1) (λ x e. or_left (first x) (off x) e)))
    to from
  where
    to : (o : ℕ) (x : Option A) (ws : List Word) → Either (Last (R o) (λ x. some_of x)) (Ends none_of) x ws → Maybe (R o) x ws
    to o x ws (inl is) = subst (λ z. Maybe (R o) z ws) is.2 is.1
    to o x ws (inr is) = subst (λ z. Maybe (R o) z ws) is.0 is.1

    from : (o : ℕ) (x : Option A) (ws : List Word) → Maybe (R o) x ws → Either (Last (R o) (λ x. some_of x)) (Ends none_of) x ws
    from o (Some x) ws is = inl (x, is, refl)
    from o None ws is = inr (refl, is)

-- ---- what stands at the front

-- the first word doesn't go on what stands before it
pub front : (off on : Kind → Bool) {w : Word} {vs ws : List Word} → ws ≡ w ∷ vs → off (kind_of w) ≡ false → Free off on ws
front off on e h = subst (Free off on) (sym e) h

-- the first word passes a test
pub top : (on : Kind → Bool) {w : Word} {vs ws : List Word} → ws ≡ w ∷ vs → on (kind_of w) ≡ true → Headed on ws
top on e h = subst (Headed on) (sym e) h

pub never_free : (on : Kind → Bool) (ws : List Word) → Free never on ws
never_free on [] = λ x e. refl
never_free on (w ∷ ws) = refl

-- below fewer levels
pub fewer : {A : Type 0} {k : ℕ} {R : ℕ → A → List Word → Type 0} {on : Kind → Bool} {at : ℕ → Reader A} → Rule (suc k) R on at → Rule k R on at
fewer rule = record { some = rule.some; law = λ max o n h e. rule.law max o n (omega arith) e; grows = λ n m h l ts. rule.grows n m (omega arith) l ts }

and_done : {A : Type 0} (r : Read A) → and_then r (λ a. done a) ≡ r
and_done (Ok x) = refl
and_done (Err s) = refl

-- a reader alone
pub plainly : {A : Type 0} {k : ℕ} {R : ℕ → A → List Word → Type 0} {on : Kind → Bool} {at : ℕ → Reader A} → Rule k R on (λ n. at n >>= λ a. done a) → Rule k R on at
plainly {A = A} {at = at} rule = record {
  some = rule.some;
  law = λ max o n h e. alike (λ ts. sym (and_done (at n ts))) (rule.law max o n h e);
  grows = λ n m h l ts.
      let P : Read A → Type 0 = λ z. By z (at m ts) in
      let Q : Read A → Type 0 = λ z. By (and_then (at n ts) (λ a. done a)) z in
      subst P (and_done (at n ts)) (subst Q (and_done (at m ts)) (rule.grows n m h l ts));
}

-- a bracket alone, of a rule that holds at every level
pub enclosed : {B : Type 0} {k : ℕ} (m : Mark) {Q : ℕ → B → List Word → Type 0} {on : Kind → Bool} (next : Opened → ℕ → Reader B) →
    ((at : ℕ) → Rule k Q on (λ n. next (record { at = at; left = n }) (suc n))) → Rule k (λ o. Skipped (Marked m None (suc o)) (Q (suc o))) on (λ n. open_at n m >>= λ z. next z n)
enclosed {k = k} m next rule = bracket {below = k} (omega arith) m next rule
