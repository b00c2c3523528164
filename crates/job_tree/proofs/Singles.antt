-- Readers of one token, and lists of what is spelled.
use Rattle.std.proofs.Common.{◌≡◌, ℕ, Bool, true, false, cond, inl, inr, List, [], ◌∷◌, ◌++◌, map, refl, ap, sym, ◌∙◌, arith, Option, Some, None, subst}
use Rattle.std.specs.Prelude.{◌||◌}
use Rattle.job_tree.specs.declared.token.Kind.{Kind}
use Rattle.job_tree.specs.declared.token.Kind.TheVariants as kinds
use Rattle.job_tree.specs.declared.token.Mark.{Mark}
use Rattle.job_tree.specs.declared.token.Mark.TheVariants as marks
use Rattle.job_tree.specs.declared.token.Num.{Num}
use Rattle.job_tree.specs.declared.token.Span.{Span}
use Rattle.job_tree.specs.declared.tree.AddOp.{AddOp}
use Rattle.job_tree.specs.declared.tree.AddOp.TheVariants as adds
use Rattle.job_tree.specs.declared.tree.MulOp.{MulOp}
use Rattle.job_tree.specs.declared.tree.MulOp.TheVariants as muls
use Rattle.job_tree.specs.declared.tree.CompareOp.{CompareOp}
use Rattle.job_tree.specs.declared.tree.CompareOp.TheVariants as compares
use Rattle.job_tree.specs.declared.tree.Here.{Here}
use Rattle.job_tree.specs.declared.tree.Here.TheVariants as heres
use Rattle.job_tree.specs.declared.tree.Choice.{Choice}
use Rattle.job_tree.specs.declared.tree.Choice.TheVariants as choices
use Rattle.job_tree.specs.declared.tree.How.{How}
use Rattle.job_tree.specs.declared.tree.How.TheVariants as hows
use Rattle.job_tree.specs.Readers.{Reader, ◌>>=◌, is_mark, mark_at, many, optional}
use Rattle.job_tree.specs.Word.{Word, Name, Number, Marked, kind_of}
use Rattle.job_tree.specs.Spelling.{Spelling, mark as bare, placed, joined, joined_behind, maybe as maybe_spelling, add_mark, mul_mark, compare_mark, here_mark, choice_mark, how_mark}
use Rattle.job_tree.specs.Reading.{told, name_in, num_in, add_in, mul_in, compare_in, here_in, choice_in, how_in, at_place, some, name_at, num_at, add_at, mul_at, compare_at, here_at, choice_at, how_at, behind}
use Rattle.job_tree.proofs.Lists.{chosen, some_same, Headed}
use Rattle.std.specs.List.{AllByRecursion}
use Rattle.std.specs.Prelude.{length, ◌<◌}
use Rattle.job_tree.proofs.Joined.{Free, Then, Last}
use Rattle.job_tree.proofs.Many.{Each, or_right}
use Rattle.job_tree.proofs.Marks.{is_mark_same, is_mark_itself}
use Rattle.job_tree.proofs.Rules.{Rule, Maybe, mark, maybe, then, last, plainly, end, never, Single, Kept, Skipped, keep, skip, items, in_words, top}

-- ---- one token

name_back : (k : Kind) (x : Span) → name_in k ≡ Some x → k ≡ kinds.Name x
name_back (kinds.Name span) x e = ap (λ z. kinds.Name z) (some_same span x e)
name_back (kinds.Number n) x e = absurd cc
name_back (kinds.Mark m) x e = absurd cc
name_back kinds.Bad x e = absurd cc
name_back kinds.TooLarge x e = absurd cc
name_back kinds.End x e = absurd cc

num_back : (k : Kind) (x : Num) → num_in k ≡ Some x → k ≡ kinds.Number x
num_back (kinds.Number n) x e = ap (λ z. kinds.Number z) (some_same n x e)
num_back (kinds.Name span) x e = absurd cc
num_back (kinds.Mark m) x e = absurd cc
num_back kinds.Bad x e = absurd cc
num_back kinds.TooLarge x e = absurd cc
num_back kinds.End x e = absurd cc

name_single : Single (λ t. name_in t.kind) (λ x. Name x)
name_single = record {
  some = record { at = 0; len = 0 };
  back = λ t x e. record { kind = name_back t.kind x e; place = tt };
  there = λ t x is. ap name_in is.kind;
  flat = λ x. refl;
}

num_single : Single (λ t. num_in t.kind) (λ x. Number x)
num_single = record {
  some = record { at = 0; value = 0 };
  back = λ t x e. record { kind = num_back t.kind x e; place = tt };
  there = λ t x is. ap num_in is.kind;
  flat = λ x. refl;
}

-- the first of several marks
pick : {A : Type 0} (m : Mark) (x : A) (rest : Option A) (k : Kind) (y : A) (mark_of : A → Mark) → mark_of x ≡ m → cond (is_mark m k) (Some x) rest ≡ Some y → (rest ≡ Some y → k ≡ kinds.Mark (mark_of y)) → k ≡ kinds.Mark (mark_of y)
pick m x rest k y mark_of here e next = elim (chosen (is_mark m k) (Some x) rest (Some y) e) [
  | inl c ↦ is_mark_same m k c.0 ∙ ap (λ z. kinds.Mark z) (sym here ∙ ap mark_of (some_same x y c.1))
  | inr c ↦ next c.1
]

-- an operator, with and without its place
op_single : {A : Type 0} (op_in : Kind → Option A) (mark_of : A → Mark) (some : A) → ((k : Kind) (x : A) → op_in k ≡ Some x → k ≡ kinds.Mark (mark_of x)) → ((x : A) → op_in (kinds.Mark (mark_of x)) ≡ Some x) → Single (λ t. op_in t.kind) (λ x. Marked (mark_of x) None 0)
op_single op_in mark_of some back there = record {
  some = some;
  back = λ t x e. record { kind = back t.kind x e; place = tt };
  there = λ t x is. ap op_in is.kind ∙ there x;
  flat = λ x. refl;
}

place_back : {A : Type 0} (o : Option A) (at : ℕ) (x : ℕ × A) → at_place o at ≡ Some x → (at ≡ x.0) × (o ≡ Some x.1)
place_back (Some y) at x e = let same : (at, y) ≡ x = some_same (at, y) x e in (ap (λ z. z.0) same, ap (λ z. Some z.1) same)
place_back None at x e = absurd cc

placed_single : {A : Type 0} (op_in : Kind → Option A) (mark_of : A → Mark) (some : A) → ((k : Kind) (x : A) → op_in k ≡ Some x → k ≡ kinds.Mark (mark_of x)) → ((x : A) → op_in (kinds.Mark (mark_of x)) ≡ Some x) → Single (λ t. at_place (op_in t.kind) t.at) (λ (x : ℕ × A). Marked (mark_of x.1) (Some x.0) 0)
placed_single op_in mark_of some back there = record {
  some = (0, some);
  back = λ t x e. let v = place_back (op_in t.kind) t.at x e in record { kind = back t.kind x.1 v.1; place = v.0 };
  there = λ t x is. ap (λ z. at_place z t.at) (ap op_in is.kind ∙ there x.1) ∙ ap (λ z. Some (z, x.1)) is.place;
  flat = λ x. refl;
}

-- the operator that a kind told
told_op : {A : Type 0} (o : Option A) → told o ≡ true → (x : A) × (o ≡ Some x)
told_op (Some x) e = (x, refl)
told_op None e = absurd cc

pub add_back : (k : Kind) (x : AddOp) → add_in k ≡ Some x → k ≡ kinds.Mark (add_mark x)
add_back k x e = pick marks.Plus adds.Plus _ k x add_mark refl e (λ e. pick marks.Minus adds.Minus _ k x add_mark refl e (λ e. absurd cc))

pub add_there : (x : AddOp) → add_in (kinds.Mark (add_mark x)) ≡ Some x
add_there adds.Plus = refl
add_there adds.Minus = refl

pub add_told : (off : Kind → Bool) → ((x : AddOp) → off (kinds.Mark (add_mark x)) ≡ false) → (k : Kind) → told (add_in k) ≡ true → off k ≡ false
add_told off h k e = let v = told_op (add_in k) e in ap off (add_back k v.0 v.1) ∙ h v.0

pub mul_back : (k : Kind) (x : MulOp) → mul_in k ≡ Some x → k ≡ kinds.Mark (mul_mark x)
mul_back k x e = pick marks.Times muls.Times _ k x mul_mark refl e (λ e. pick marks.Divide muls.Divide _ k x mul_mark refl e (λ e. pick marks.Remainder muls.Remainder _ k x mul_mark refl e (λ e. absurd cc)))

pub mul_there : (x : MulOp) → mul_in (kinds.Mark (mul_mark x)) ≡ Some x
mul_there muls.Times = refl
mul_there muls.Divide = refl
mul_there muls.Remainder = refl

pub mul_told : (off : Kind → Bool) → ((x : MulOp) → off (kinds.Mark (mul_mark x)) ≡ false) → (k : Kind) → told (mul_in k) ≡ true → off k ≡ false
mul_told off h k e = let v = told_op (mul_in k) e in ap off (mul_back k v.0 v.1) ∙ h v.0

pub compare_back : (k : Kind) (x : CompareOp) → compare_in k ≡ Some x → k ≡ kinds.Mark (compare_mark x)
compare_back k x e = pick marks.Equal compares.Equal _ k x compare_mark refl e (λ e. pick marks.NotEqual compares.NotEqual _ k x compare_mark refl e (λ e. pick marks.Less compares.Less _ k x compare_mark refl e (λ e. pick marks.LessEqual compares.LessEqual _ k x compare_mark refl e (λ e. pick marks.Greater compares.Greater _ k x compare_mark refl e (λ e. pick marks.GreaterEqual compares.GreaterEqual _ k x compare_mark refl e (λ e. absurd cc))))))

pub compare_there : (x : CompareOp) → compare_in (kinds.Mark (compare_mark x)) ≡ Some x
compare_there compares.Equal = refl
compare_there compares.NotEqual = refl
compare_there compares.Less = refl
compare_there compares.LessEqual = refl
compare_there compares.Greater = refl
compare_there compares.GreaterEqual = refl

pub compare_told : (off : Kind → Bool) → ((x : CompareOp) → off (kinds.Mark (compare_mark x)) ≡ false) → (k : Kind) → told (compare_in k) ≡ true → off k ≡ false
compare_told off h k e = let v = told_op (compare_in k) e in ap off (compare_back k v.0 v.1) ∙ h v.0

pub here_back : (k : Kind) (x : Here) → here_in k ≡ Some x → k ≡ kinds.Mark (here_mark x)
here_back k x e = pick marks.Index heres.Index _ k x here_mark refl e (λ e. pick marks.Row heres.Row _ k x here_mark refl e (λ e. pick marks.Col heres.Col _ k x here_mark refl e (λ e. pick marks.Cell heres.Cell _ k x here_mark refl e (λ e. pick marks.Iter heres.Iter _ k x here_mark refl e (λ e. absurd cc)))))

pub here_there : (x : Here) → here_in (kinds.Mark (here_mark x)) ≡ Some x
here_there heres.Index = refl
here_there heres.Row = refl
here_there heres.Col = refl
here_there heres.Cell = refl
here_there heres.Iter = refl

pub here_told : (off : Kind → Bool) → ((x : Here) → off (kinds.Mark (here_mark x)) ≡ false) → (k : Kind) → told (here_in k) ≡ true → off k ≡ false
here_told off h k e = let v = told_op (here_in k) e in ap off (here_back k v.0 v.1) ∙ h v.0

pub choice_back : (k : Kind) (x : Choice) → choice_in k ≡ Some x → k ≡ kinds.Mark (choice_mark x)
choice_back k x e = pick marks.Min choices.Min _ k x choice_mark refl e (λ e. pick marks.Max choices.Max _ k x choice_mark refl e (λ e. absurd cc))

pub choice_there : (x : Choice) → choice_in (kinds.Mark (choice_mark x)) ≡ Some x
choice_there choices.Min = refl
choice_there choices.Max = refl

pub choice_told : (off : Kind → Bool) → ((x : Choice) → off (kinds.Mark (choice_mark x)) ≡ false) → (k : Kind) → told (choice_in k) ≡ true → off k ≡ false
choice_told off h k e = let v = told_op (choice_in k) e in ap off (choice_back k v.0 v.1) ∙ h v.0

pub how_back : (k : Kind) (x : How) → how_in k ≡ Some x → k ≡ kinds.Mark (how_mark x)
how_back k x e = pick marks.Sum hows.Sum _ k x how_mark refl e (λ e. pick marks.Min hows.Min _ k x how_mark refl e (λ e. pick marks.Max hows.Max _ k x how_mark refl e (λ e. absurd cc)))

pub how_there : (x : How) → how_in (kinds.Mark (how_mark x)) ≡ Some x
how_there hows.Sum = refl
how_there hows.Min = refl
how_there hows.Max = refl

pub how_told : (off : Kind → Bool) → ((x : How) → off (kinds.Mark (how_mark x)) ≡ false) → (k : Kind) → told (how_in k) ≡ true → off k ≡ false
how_told off h k e = let v = told_op (how_in k) e in ap off (how_back k v.0 v.1) ∙ h v.0

pub name : {B : Type 0} {k : ℕ} {Q : Span → ℕ → B → List Word → Type 0} {on : Kind → Bool} {next : Span → ℕ → Reader B} →
    ((a : Span) → Rule k (Q a) on (next a)) → Rule k (λ o. Kept (λ a. Name a) (λ a. Q a o)) on (λ n. name_at >>= λ a. next a n)
unfolding name_at
name rule = keep name_single rule

pub num : {B : Type 0} {k : ℕ} {Q : Num → ℕ → B → List Word → Type 0} {on : Kind → Bool} {next : Num → ℕ → Reader B} →
    ((a : Num) → Rule k (Q a) on (next a)) → Rule k (λ o. Kept (λ a. Number a) (λ a. Q a o)) on (λ n. num_at >>= λ a. next a n)
unfolding num_at
num rule = keep num_single rule

pub add : {B : Type 0} {k : ℕ} {Q : (ℕ × AddOp) → ℕ → B → List Word → Type 0} {on : Kind → Bool} {next : (ℕ × AddOp) → ℕ → Reader B} →
    ((a : ℕ × AddOp) → Rule k (Q a) on (next a)) → Rule k (λ o. Kept (λ (a : ℕ × AddOp). Marked (add_mark a.1) (Some a.0) 0) (λ a. Q a o)) on (λ n. add_at >>= λ a. next a n)
unfolding add_at
add rule = keep (placed_single add_in add_mark adds.Plus add_back add_there) rule

pub mul : {B : Type 0} {k : ℕ} {Q : (ℕ × MulOp) → ℕ → B → List Word → Type 0} {on : Kind → Bool} {next : (ℕ × MulOp) → ℕ → Reader B} →
    ((a : ℕ × MulOp) → Rule k (Q a) on (next a)) → Rule k (λ o. Kept (λ (a : ℕ × MulOp). Marked (mul_mark a.1) (Some a.0) 0) (λ a. Q a o)) on (λ n. mul_at >>= λ a. next a n)
unfolding mul_at
mul rule = keep (placed_single mul_in mul_mark muls.Times mul_back mul_there) rule

pub compare : {B : Type 0} {k : ℕ} {Q : CompareOp → ℕ → B → List Word → Type 0} {on : Kind → Bool} {next : CompareOp → ℕ → Reader B} →
    ((a : CompareOp) → Rule k (Q a) on (next a)) → Rule k (λ o. Kept (λ a. Marked (compare_mark a) None 0) (λ a. Q a o)) on (λ n. compare_at >>= λ a. next a n)
unfolding compare_at
compare rule = keep (op_single compare_in compare_mark compares.Equal compare_back compare_there) rule

pub here : {B : Type 0} {k : ℕ} {Q : (ℕ × Here) → ℕ → B → List Word → Type 0} {on : Kind → Bool} {next : (ℕ × Here) → ℕ → Reader B} →
    ((a : ℕ × Here) → Rule k (Q a) on (next a)) → Rule k (λ o. Kept (λ (a : ℕ × Here). Marked (here_mark a.1) (Some a.0) 0) (λ a. Q a o)) on (λ n. here_at >>= λ a. next a n)
unfolding here_at
here rule = keep (placed_single here_in here_mark heres.Index here_back here_there) rule

pub choice : {B : Type 0} {k : ℕ} {Q : (ℕ × Choice) → ℕ → B → List Word → Type 0} {on : Kind → Bool} {next : (ℕ × Choice) → ℕ → Reader B} →
    ((a : ℕ × Choice) → Rule k (Q a) on (next a)) → Rule k (λ o. Kept (λ (a : ℕ × Choice). Marked (choice_mark a.1) (Some a.0) 0) (λ a. Q a o)) on (λ n. choice_at >>= λ a. next a n)
unfolding choice_at
choice rule = keep (placed_single choice_in choice_mark choices.Min choice_back choice_there) rule

pub how : {B : Type 0} {k : ℕ} {Q : How → ℕ → B → List Word → Type 0} {on : Kind → Bool} {next : How → ℕ → Reader B} →
    ((a : How) → Rule k (Q a) on (next a)) → Rule k (λ o. Kept (λ a. Marked (how_mark a) None 0) (λ a. Q a o)) on (λ n. how_at >>= λ a. next a n)
unfolding how_at
how rule = keep (op_single how_in how_mark hows.Sum how_back how_there) rule

-- ---- lists

-- values are spelled so, where o levels are open
abbrev pub Spelt : {A : Type 0} → (A → Spelling) → ℕ → A → List Word → Type 0
Spelt spell o x ws = ws ≡ spell x o

abbrev pub SpeltAll : {A : Type 0} → (A → Spelling) → ℕ → List A → List Word → Type 0
SpeltAll spell o xs ws = ws ≡ joined o (map spell xs)

abbrev pub SpeltBehind : {A : Type 0} → Mark → (A → Spelling) → ℕ → List A → List Word → Type 0
SpeltBehind m spell o xs ws = ws ≡ joined_behind m o (map spell xs)

all_to : {A : Type 0} (spell : A → Spelling) (o : ℕ) (xs : List A) (ws : List Word) → Each (Spelt spell o) xs ws → SpeltAll spell o xs ws
all_to spell o [] ws is = is
all_to spell o (x ∷ xs) ws is = is.2 ∙ ap (λ z. z ++ is.1) is.3 ∙ ap (λ z. spell x o ++ z) (all_to spell o xs is.1 is.4)

all_from : {A : Type 0} (spell : A → Spelling) (o : ℕ) (xs : List A) (ws : List Word) → SpeltAll spell o xs ws → Each (Spelt spell o) xs ws
all_from spell o [] ws is = is
all_from spell o (x ∷ xs) ws is = (spell x o, joined o (map spell xs), is, refl, all_from spell o xs (joined o (map spell xs)) refl)

behind_to : {A : Type 0} (m : Mark) (spell : A → Spelling) (o : ℕ) (xs : List A) (ws : List Word) → Each (Skipped (bare m) (Spelt spell o)) xs ws → SpeltBehind m spell o xs ws
behind_to m spell o [] ws is = is
behind_to m spell o (x ∷ xs) ws is = is.2 ∙ ap (λ z. z ++ is.1) is.3.1 ∙ ap (λ z. bare m ∷ (z ++ is.1)) is.3.2 ∙ ap (λ z. bare m ∷ (spell x o ++ z)) (behind_to m spell o xs is.1 is.4)

behind_from : {A : Type 0} (m : Mark) (spell : A → Spelling) (o : ℕ) (xs : List A) (ws : List Word) → SpeltBehind m spell o xs ws → Each (Skipped (bare m) (Spelt spell o)) xs ws
behind_from m spell o [] ws is = is
behind_from m spell o (x ∷ xs) ws is =
    (bare m ∷ spell x o, joined_behind m o (map spell xs), is, (spell x o, refl, refl), behind_from m spell o xs (joined_behind m o (map spell xs)) refl)

module _ {A : Type 0} {k : ℕ} (spell : A → Spelling) {off : Kind → Bool} {at : ℕ → Reader A} where
  pub all : (on : Kind → Bool) → Rule k (Spelt spell) off at → ((o : ℕ) (x : A) → Headed on (spell x o)) → ((x : Kind) → on x ≡ true → off x ≡ false) → Rule k (SpeltAll spell) (λ x. on x || off x) (λ n. many on (at n))
  all on rule heads apart = in_words (items on rule (λ o x ws is. subst (Headed on) (sym is) (heads o x)) apart) (all_to spell) (all_from spell)

  pub behinds : (m : Mark) → Rule k (Spelt spell) off at → off (kinds.Mark m) ≡ false → Rule k (SpeltBehind m spell) (λ x. is_mark m x || off x) (λ n. many (is_mark m) (behind m (at n)))
  behinds m rule apart = in_words
      (items (is_mark m) (skip m (λ _. rule)) (λ o x ws is. top (is_mark m) is.1 (is_mark_itself m)) (λ x e. ap off (is_mark_same m x e) ∙ apart))
      (behind_to m spell) (behind_from m spell)

-- what follows an item is another, or what follows the list
pub all_free : {A : Type 0} (spell : A → Spelling) (on off : Kind → Bool) (o : ℕ) (xs : List A) (vs : List Word) → ((o : ℕ) (x : A) → Headed on (spell x o)) → ((x : Kind) → on x ≡ true → off x ≡ false) → SpeltAll spell o xs vs → Free off (λ x. on x || off x) vs
all_free {A = A} spell on off o xs vs heads apart is = subst (Free off (λ x. on x || off x)) (sym is) (by xs)
  where
    begun : (us more : List Word) → Headed on us → Free off (λ x. on x || off x) (us ++ more)
    begun [] more h = absurd h
    begun (w ∷ us) more h = apart (kind_of w) h

    by : (xs : List A) → Free off (λ x. on x || off x) (joined o (map spell xs))
    by [] = λ x e. or_right (on x) (off x) e
    by (x ∷ xs) = begun (spell x o) (joined o (map spell xs)) (heads o x)

pub behind_free : {A : Type 0} (m : Mark) (spell : A → Spelling) (off : Kind → Bool) (o : ℕ) (xs : List A) (vs : List Word) → off (kinds.Mark m) ≡ false → SpeltBehind m spell o xs vs → Free off (λ x. is_mark m x || off x) vs
behind_free {A = A} m spell off o xs vs apart is = subst (Free off (λ x. is_mark m x || off x)) (sym is) (by xs)
  where
    by : (xs : List A) → Free off (λ x. is_mark m x || off x) (joined_behind m o (map spell xs))
    by [] = λ x e. or_right (is_mark m x) (off x) e
    by (x ∷ xs) = apart

-- ---- one token alone

pub num_alone : {k : ℕ} → Rule k (λ o (x : Num) ws. ws ≡ Number x ∷ []) never (λ n. num_at)
num_alone = in_words (plainly (num (λ x. end x))) (λ o x ws t. cc) (λ o x ws e. (x, [], e, (refl, refl)))

pub name_alone : {k : ℕ} → Rule k (λ o (x : Span) ws. ws ≡ Name x ∷ []) never (λ n. name_at)
name_alone = in_words (plainly (name (λ x. end x))) (λ o x ws t. cc) (λ o x ws e. (x, [], e, (refl, refl)))

pub mark_alone : {k : ℕ} (m : Mark) → Rule k (λ o (x : ℕ) ws. ws ≡ placed m x ∷ []) never (λ n. mark_at m)
mark_alone m = in_words (plainly (mark m (λ x. end x))) (λ o x ws t. cc) (λ o x ws e. (x, [], e, (refl, refl)))

-- ---- a part that may be missing

abbrev pub SpeltMaybe : {A : Type 0} → (A → Spelling) → ℕ → Option A → List Word → Type 0
SpeltMaybe spell o x ws = ws ≡ maybe_spelling spell x o

module _ {A : Type 0} {k : ℕ} (spell : A → Spelling) {off : Kind → Bool} {at : ℕ → Reader A} where
  pub opt : (first : Kind → Bool) → Rule k (Spelt spell) off at → ((o : ℕ) (x : A) → Headed first (spell x o)) → Rule k (SpeltMaybe spell) (λ x. first x || off x) (λ n. optional first (at n))
  opt first rule heads = in_words (maybe first rule (λ o x ws is. subst (Headed first) (sym is) (heads o x))) to from
    where
      to : (o : ℕ) (x : Option A) (ws : List Word) → Maybe (Spelt spell o) x ws → SpeltMaybe spell o x ws
      to o (Some x) ws is = is
      to o None ws is = is

      from : (o : ℕ) (x : Option A) (ws : List Word) → SpeltMaybe spell o x ws → Maybe (Spelt spell o) x ws
      from o (Some x) ws is = is
      from o None ws is = is

-- ---- at least one

-- values that meet a condition are spelled so
abbrev pub Fine : {A : Type 0} → (A → Type 0) → (A → Spelling) → ℕ → A → List Word → Type 0
Fine P spell o x ws = P x × (ws ≡ spell x o)

abbrev pub FineSome : {A : Type 0} → (A → Type 0) → (A → Spelling) → ℕ → List A → List Word → Type 0
FineSome P spell o xs ws = (0 < length xs) × AllByRecursion P xs × (ws ≡ joined o (map spell xs))

abbrev pub FineAll : {A : Type 0} → (A → Type 0) → (A → Spelling) → ℕ → List A → List Word → Type 0
FineAll P spell o xs ws = AllByRecursion P xs × (ws ≡ joined o (map spell xs))

module _ {A : Type 0} (P : A → Type 0) (spell : A → Spelling) where
  fine_to : (o : ℕ) (xs : List A) (ws : List Word) → Each (Fine P spell o) xs ws → FineAll P spell o xs ws
  fine_to o [] ws is = (tt, is)
  fine_to o (x ∷ xs) ws is = let r = fine_to o xs is.1 is.4 in ((is.3.0, r.0), is.2 ∙ ap (λ z. z ++ is.1) is.3.1 ∙ ap (λ z. spell x o ++ z) r.1)

  fine_from : (o : ℕ) (xs : List A) (ws : List Word) → FineAll P spell o xs ws → Each (Fine P spell o) xs ws
  fine_from o [] ws is = is.1
  fine_from o (x ∷ xs) ws is = (spell x o, joined o (map spell xs), is.1, (is.0.0, refl), fine_from o xs (joined o (map spell xs)) (is.0.1, refl))

  module _ {k : ℕ} {off : Kind → Bool} {at : ℕ → Reader A} (on : Kind → Bool) (rule : Rule k (Fine P spell) off at) (heads : (o : ℕ) (x : A) → Headed on (spell x o)) (apart : (x : Kind) → on x ≡ true → off x ≡ false) where
    pub fine_all : Rule k (FineAll P spell) (λ x. on x || off x) (λ n. many on (at n))
    fine_all = in_words (items on rule (λ o x ws is. subst (Headed on) (sym is.1) (heads o x)) apart) fine_to fine_from

    abbrev cons : A → List A → List A
    cons x xs = x ∷ xs

    pub fine_some : Rule k (FineSome P spell) (λ x. on x || off x) (λ n. some on (at n))
    fine_some = in_words
        (then rule (λ first. last fine_all (λ others. first ∷ others)) (λ o a x vs q. all_free spell on off o q.0 vs heads apart q.1.1))
        to from
      where
        of : (o : ℕ) (x : A) (xs : List A) (us vs ws : List Word) → ws ≡ us ++ vs → Fine P spell o x us → FineAll P spell o xs vs → FineSome P spell o (x ∷ xs) ws
        of o x xs us vs ws e a b = (omega arith, (a.0, b.0), e ∙ ap (λ z. z ++ vs) a.1 ∙ ap (λ z. spell x o ++ z) b.1)

        to : (o : ℕ) (xs : List A) (ws : List Word) → Then (Fine P spell o) (λ first. Last (FineAll P spell o) (λ others. cons first others)) xs ws → FineSome P spell o xs ws
        to o xs ws t = subst (λ z. FineSome P spell o z ws) t.5.2 (of o t.0 t.5.0 t.1 t.2 ws t.3 t.4 t.5.1)

        from : (o : ℕ) (xs : List A) (ws : List Word) → FineSome P spell o xs ws → Then (Fine P spell o) (λ first. Last (FineAll P spell o) (λ others. cons first others)) xs ws
        from o [] ws is = absurd (omega (arith, is.0))
        from o (x ∷ xs) ws is = (x, spell x o, joined o (map spell xs), is.2, (is.1.0, refl), (xs, (is.1.1, refl), refl))

-- the first of some items
pub some_front : {A : Type 0} (spell : A → Spelling) (on off all_on : Kind → Bool) (o : ℕ) (xs : List A) (vs more : List Word) → ((o : ℕ) (x : A) → Headed on (spell x o)) → ((x : Kind) → on x ≡ true → off x ≡ false) → 0 < length xs → vs ≡ joined o (map spell xs) ++ more → Free off all_on vs
some_front spell on off all_on o [] vs more heads apart some is = absurd (omega (arith, some))
some_front spell on off all_on o (x ∷ xs) vs more heads apart some is = subst (Free off all_on) (sym is) (by (spell x o) (heads o x))
  where
    by : (us : List Word) → Headed on us → Free off all_on ((us ++ joined o (map spell xs)) ++ more)
    by [] h = absurd h
    by (w ∷ us) h = apart (kind_of w) h
