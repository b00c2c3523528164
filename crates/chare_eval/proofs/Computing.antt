-- What an expression computes depends on the cells that it reads alone, and its slip is of a kind that there is.
use Rattle.std.proofs.Common.{◌≡◌, ℕ, zero, suc, ◌+◌, ◌<◌, ◌≤◌, ℤ, pos, negsuc, Bool, true, false, List, [], ◌∷◌, length, map, refl, ap, sym, ◌∙◌, subst, arith, Option, Some, None}
use Rattle.std.specs.Prelude.{◌&&◌, ◌||◌, if◌then◌else◌, int_rem, nat_lt, not, slice_get}
use Rattle.std.specs.Int.{int_min, int_max, int_wrapping_div, int_wrapping_sub, w64}
use Rattle.std.specs.Ordering.{int_eq}
use Rattle.std.proofs.lemmas.Bool.{lt-ltb, ltb-true}
use Rattle.chare_base.specs.declared.expression.AddOp.{AddOp}
use Rattle.chare_base.specs.declared.expression.MulOp.{MulOp}
use Rattle.chare_base.specs.declared.expression.MulOp.TheVariants.{Times, Divide, Remainder}
use Rattle.chare_base.specs.declared.expression.Expr.{Expr, roll-Expr}
use Rattle.chare_base.specs.declared.expression.Term.{Term, roll-Term}
use Rattle.chare_base.specs.declared.expression.Factor.{Factor, roll-Factor}
use Rattle.chare_base.specs.declared.expression.Expr.TheOpen.{Expr-F, Factor-F, Term-F}
use Rattle.chare_base.specs.declared.expression.Expr.TheFolds.{fold-roll-Expr, fold-roll-Factor, fold-roll-Term, map-Expr, ind-Expr}
use Rattle.chare_base.specs.Uses.{Cells, any_of, range_of, meet, one, reads, reads_in_factor, reads_in_term, reads_step, factor_reads, term_reads}
use Rattle.chare_eval.specs.declared.value.Computed.{Computed}
use Rattle.chare_eval.specs.declared.value.Scene.{Scene}
use Rattle.chare_eval.specs.Value.{Meaning, least_kind, clean, after, cell_found, cell_in, multiplied, compared, is_true, truth, sum_of, product_of, both_of, sum_from, product_from, all_from, any_from, expr_step, factor_step, term_step, value_of, factor_of, term_of}

-- ---- sets of cells

abbrev pub Set : Type 0
Set = ℕ → Bool

-- every cell of a footprint is in the set
abbrev pub Within : Cells → Set → Type 0
Within c u = (i : ℕ) → c (one i) ≡ true → u i ≡ true

-- as long, and alike at these places
pub record Alike (u : Set) (xs ys : List ℤ) : Type 0 where
  pub len : length xs ≡ length ys
  pub at : (i : ℕ) → u i ≡ true → slice_get xs i ≡ slice_get ys i

pub left_true : (a b : Bool) → a ≡ true → (a || b) ≡ true
left_true a b e = ap (λ c. c || b) e

pub right_true : (a b : Bool) → b ≡ true → (a || b) ≡ true
right_true true b e = refl
right_true false b e = e

both_true : (a b : Bool) → a ≡ true → b ≡ true → (a && b) ≡ true
both_true a b d e = ap (λ c. c && b) d ∙ e

abbrev pub first_in : (a b : Cells) (u : Set) → Within (λ r. a r || b r) u → Within a u
first_in a b u h i e = h i (left_true (a (one i)) (b (one i)) e)

abbrev pub second_in : (a b : Cells) (u : Set) → Within (λ r. a r || b r) u → Within b u
second_in a b u h i e = h i (right_true (a (one i)) (b (one i)) e)

-- a cell of a range meets it
pub met : (at count i : ℕ) → i < count → meet (one (at + i)) (range_of at count) ≡ true
met at count i h = both_true (nat_lt (at + i) (at + count)) (nat_lt at (at + i + 1)) (lt-ltb (at + i) (at + count) (omega (arith, h))) (lt-ltb at (at + i + 1) (omega arith))

pub met_one : (at : ℕ) → meet (one at) (range_of at 1) ≡ true
met_one at = both_true (nat_lt at (at + 1)) (nat_lt at (at + 1)) (lt-ltb at (at + 1) (omega arith)) (lt-ltb at (at + 1) (omega arith))

-- ---- kinds of slips

pub least_few : (a b : ℕ) → a ≤ 3 → b ≤ 3 → least_kind a b ≤ 3
least_few zero b h k = k
least_few (suc a) zero h k = h
least_few (suc a) (suc b) h k = omega (arith, h, k)

-- ---- meanings

-- what is computed goes by these cells alone, and slips in a way that there is
pub record Tame (m : Meaning) (c : Cells) : Type 0 where
  pub same : (u : Set) (scene : Scene) (xs ys : List ℤ) → Alike u xs ys → Within c u → m scene xs ≡ m scene ys
  pub few : (scene : Scene) (xs : List ℤ) → (m scene xs).slip ≤ 3

abbrev fixed : (m : Scene → Computed) → ((scene : Scene) → (m scene).slip ≤ 3) → Tame (λ scene xs. m scene) (λ r. false)
fixed m few = record { same = λ u scene xs ys alike h. refl; few = λ scene xs. few scene }

unary : (f : Computed → Computed) (m : Meaning) (c : Cells) → ((w : Computed) → w.slip ≤ 3 → (f w).slip ≤ 3) → Tame m c → Tame (λ scene xs. f (m scene xs)) c
unary f m c few t = record { same = λ u scene xs ys alike h. ap f (t.same u scene xs ys alike h); few = λ scene xs. few (m scene xs) (t.few scene xs) }

abbrev Joins : (Computed → Computed → Computed) → Type 0
Joins f = (v w : Computed) → v.slip ≤ 3 → w.slip ≤ 3 → (f v w).slip ≤ 3

binary : (f : Computed → Computed → Computed) (m n : Meaning) (c d : Cells) → Joins f → Tame m c → Tame n d → Tame (λ scene xs. f (m scene xs) (n scene xs)) (λ r. c r || d r)
binary f m n c d few a b = record {
  same = λ u scene xs ys alike h.
      ap (λ w. f w (n scene xs)) (a.same u scene xs ys alike (first_in c d u h)) ∙ ap (f (m scene ys)) (b.same u scene xs ys alike (second_in c d u h));
  few = λ scene xs. few (m scene xs) (n scene xs) (a.few scene xs) (b.few scene xs);
}

-- the same by more cells
wider : (m : Meaning) (c d : Cells) → ((i : ℕ) → c (one i) ≡ true → d (one i) ≡ true) → Tame m c → Tame m d
wider m c d more t = record { same = λ u scene xs ys alike h. t.same u scene xs ys alike (λ i e. h i (more i e)); few = t.few }

turned : (a b c : Bool) → ((a || b) || c) ≡ true → (a || (b || c)) ≡ true
turned true b c e = refl
turned false b c e = e

-- ---- cells

found_few : (o : Option ℤ) → (cell_found o).slip ≤ 3
found_few (Some v) = omega arith
found_few None = omega arith

place_few : (b : Bool) (o : Option ℤ) → (if b then cell_found o else cell_found None).slip ≤ 3
place_few true o = found_few o
place_few false o = found_few None

cell_few : (xs : List ℤ) (at count : ℕ) (place : ℤ) → (cell_in xs at count place).slip ≤ 3
cell_few xs at count (pos i) = place_few (nat_lt i count) (slice_get xs (at + i))
cell_few xs at count (negsuc i) = found_few None

module _ (u : Set) (xs ys : List ℤ) (alike : Alike u xs ys) where
  place_same : (at count i : ℕ) (b : Bool) → nat_lt i count ≡ b → Within (λ r. meet r (range_of at count)) u →
      (if b then cell_found (slice_get xs (at + i)) else cell_found None) ≡ (if b then cell_found (slice_get ys (at + i)) else cell_found None)
  place_same at count i true e h = ap cell_found (alike.at (at + i) (h (at + i) (met at count i (ltb-true i count e))))
  place_same at count i false e h = refl

  cell_same : (at count : ℕ) (place : ℤ) → Within (λ r. meet r (range_of at count)) u → cell_in xs at count place ≡ cell_in ys at count place
  cell_same at count (pos i) h = place_same at count i (nat_lt i count) refl h
  cell_same at count (negsuc i) h = refl

one_cell : (at : ℕ) → Tame (λ scene xs. cell_found (slice_get xs at)) (λ r. meet r (range_of at 1))
one_cell at = record {
  same = λ u scene xs ys alike h. ap cell_found (alike.at at (h at (met_one at)));
  few = λ scene xs. found_few (slice_get xs at);
}

placed_cell : (at count : ℕ) (m : Meaning) (c : Cells) → Tame m c →
    Tame (λ scene xs. after (m scene xs).slip (cell_in xs at count (m scene xs).value)) (λ r. meet r (range_of at count) || c r)
placed_cell at count m c t = record {
  same = λ u scene xs ys alike h.
      ap (λ (w : Computed). after w.slip (cell_in xs at count w.value)) (t.same u scene xs ys alike (second_in (λ r. meet r (range_of at count)) c u h))
      ∙ ap (after (m scene ys).slip) (cell_same u xs ys alike at count (m scene ys).value (first_in (λ r. meet r (range_of at count)) c u h));
  few = λ scene xs. least_few (m scene xs).slip (cell_in xs at count (m scene xs).value).slip (t.few scene xs) (cell_few xs at count (m scene xs).value);
}

-- ---- chains

joined_few : (op : ℤ → ℤ → ℤ) → Joins (both_of op)
joined_few op v w a b = least_few v.slip w.slip a b

sum_few : (op : AddOp) → Joins (sum_of op)
sum_few op v w a b = least_few v.slip w.slip a b

by_zero : (b : Bool) (v : ℤ) → (if b then record { value = pos 0; slip = 1 } else clean v).slip ≤ 3
by_zero true v = omega arith
by_zero false v = omega arith

multiplied_few : (op : MulOp) (x y : ℤ) → (multiplied op x y).slip ≤ 3
multiplied_few Times x y = omega arith
multiplied_few Divide x y = by_zero (int_eq y (pos 0)) (int_wrapping_div w64 x y)
multiplied_few Remainder x y = by_zero (int_eq y (pos 0)) (int_rem x y)

product_few : (op : MulOp) → Joins (product_of op)
product_few op v w a b = least_few (least_kind v.slip w.slip) (multiplied op v.value w.value).slip (least_few v.slip w.slip a b) (multiplied_few op v.value w.value)

abbrev ExprTame : Expr → Type 0
ExprTame e = Tame (value_of e) (reads e)

abbrev FactorTame : Factor → Type 0
FactorTame f = Tame (factor_of f).1 (reads_in_factor f)

abbrev TermTame : Term → Type 0
TermTame t = Tame (term_of t).1 (reads_in_term t)

abbrev Exprs : Type 0
Exprs = List ((e : Expr) × ExprTame e)

abbrev exprs : Exprs → List Expr
exprs es = map (λ e. e.0) es

abbrev Terms : Type 0
Terms = List ((t : Term) × TermTame t)

abbrev terms : Terms → List Term
terms ts = map (λ t. t.0) ts

abbrev Factors : Type 0
Factors = List ((f : Factor) × FactorTame f)

abbrev factors : Factors → List Factor
factors fs = map (λ f. f.0) fs

sum_tame : (ts : Terms) (m : Meaning) (c : Cells) → Tame m c →
    Tame (λ scene xs. sum_from (map term_of (terms ts)) scene xs (m scene xs)) (λ r. c r || any_of (map reads_in_term (terms ts)) r)
sum_tame [] m c t = wider m c (λ r. c r || false) (λ i e. left_true (c (one i)) false e) t
sum_tame (x ∷ ts) m c t =
    wider (λ scene xs. sum_from (map term_of (terms ts)) scene xs (sum_of (term_of x.0).0 (m scene xs) ((term_of x.0).1 scene xs)))
    (λ r. (c r || reads_in_term x.0 r) || any_of (map reads_in_term (terms ts)) r) (λ r. c r || (reads_in_term x.0 r || any_of (map reads_in_term (terms ts)) r))
    (λ i e. turned (c (one i)) (reads_in_term x.0 (one i)) (any_of (map reads_in_term (terms ts)) (one i)) e)
    (sum_tame ts (λ scene xs. sum_of (term_of x.0).0 (m scene xs) ((term_of x.0).1 scene xs)) (λ r. c r || reads_in_term x.0 r)
    (binary (sum_of (term_of x.0).0) m (term_of x.0).1 c (reads_in_term x.0) (sum_few (term_of x.0).0) t x.1))

product_tame : (fs : Factors) (m : Meaning) (c : Cells) → Tame m c →
    Tame (λ scene xs. product_from (map factor_of (factors fs)) scene xs (m scene xs)) (λ r. c r || any_of (map reads_in_factor (factors fs)) r)
product_tame [] m c t = wider m c (λ r. c r || false) (λ i e. left_true (c (one i)) false e) t
product_tame (x ∷ fs) m c t =
    wider (λ scene xs. product_from (map factor_of (factors fs)) scene xs (product_of (factor_of x.0).0 (m scene xs) ((factor_of x.0).1 scene xs)))
    (λ r. (c r || reads_in_factor x.0 r) || any_of (map reads_in_factor (factors fs)) r) (λ r. c r || (reads_in_factor x.0 r || any_of (map reads_in_factor (factors fs)) r))
    (λ i e. turned (c (one i)) (reads_in_factor x.0 (one i)) (any_of (map reads_in_factor (factors fs)) (one i)) e)
    (product_tame fs (λ scene xs. product_of (factor_of x.0).0 (m scene xs) ((factor_of x.0).1 scene xs)) (λ r. c r || reads_in_factor x.0 r)
    (binary (product_of (factor_of x.0).0) m (factor_of x.0).1 c (reads_in_factor x.0) (product_few (factor_of x.0).0) t x.1))

all_same : (es : Exprs) (u : Set) (scene : Scene) (xs ys : List ℤ) (holds : Bool) (kind : ℕ) → Alike u xs ys → Within (any_of (map reads (exprs es))) u →
    all_from (map value_of (exprs es)) scene xs holds kind ≡ all_from (map value_of (exprs es)) scene ys holds kind
all_same [] u scene xs ys holds kind alike h = refl
all_same (e ∷ es) u scene xs ys holds kind alike h =
    ap (λ (w : Computed). all_from (map value_of (exprs es)) scene xs (holds && is_true w.value) (least_kind kind w.slip))
    (e.1.same u scene xs ys alike (first_in (reads e.0) (any_of (map reads (exprs es))) u h))
    ∙ all_same es u scene xs ys (holds && is_true (value_of e.0 scene ys).value) (least_kind kind (value_of e.0 scene ys).slip) alike (second_in (reads e.0) (any_of (map reads (exprs es))) u h)

all_few : (es : Exprs) (scene : Scene) (xs : List ℤ) (holds : Bool) (kind : ℕ) → kind ≤ 3 → (all_from (map value_of (exprs es)) scene xs holds kind).slip ≤ 3
all_few [] scene xs holds kind h = h
all_few (e ∷ es) scene xs holds kind h =
    all_few es scene xs (holds && is_true (value_of e.0 scene xs).value) (least_kind kind (value_of e.0 scene xs).slip) (least_few kind (value_of e.0 scene xs).slip h (e.1.few scene xs))

any_same : (es : Exprs) (u : Set) (scene : Scene) (xs ys : List ℤ) (holds : Bool) (kind : ℕ) → Alike u xs ys → Within (any_of (map reads (exprs es))) u →
    any_from (map value_of (exprs es)) scene xs holds kind ≡ any_from (map value_of (exprs es)) scene ys holds kind
any_same [] u scene xs ys holds kind alike h = refl
any_same (e ∷ es) u scene xs ys holds kind alike h =
    ap (λ (w : Computed). any_from (map value_of (exprs es)) scene xs (holds || is_true w.value) (least_kind kind w.slip))
    (e.1.same u scene xs ys alike (first_in (reads e.0) (any_of (map reads (exprs es))) u h))
    ∙ any_same es u scene xs ys (holds || is_true (value_of e.0 scene ys).value) (least_kind kind (value_of e.0 scene ys).slip) alike (second_in (reads e.0) (any_of (map reads (exprs es))) u h)

any_few : (es : Exprs) (scene : Scene) (xs : List ℤ) (holds : Bool) (kind : ℕ) → kind ≤ 3 → (any_from (map value_of (exprs es)) scene xs holds kind).slip ≤ 3
any_few [] scene xs holds kind h = h
any_few (e ∷ es) scene xs holds kind h =
    any_few es scene xs (holds || is_true (value_of e.0 scene xs).value) (least_kind kind (value_of e.0 scene xs).slip) (least_few kind (value_of e.0 scene xs).slip h (e.1.few scene xs))

-- ---- the induction

abbrev FProduct : Type 0
FProduct = MulOp × Meaning

abbrev TSum : Type 0
TSum = AddOp × Meaning

abbrev Layer : Expr-F Expr Factor Term → Type 0
Layer x =
    Tame (expr_step (map-Expr Expr Factor Term Meaning FProduct TSum value_of factor_of term_of x)) (reads_step (map-Expr Expr Factor Term Cells Cells Cells reads reads_in_factor reads_in_term x))

abbrev Below : Type 0
Below = Expr-F ((e : Expr) × ExprTame e) ((f : Factor) × FactorTame f) ((t : Term) × TermTame t)

abbrev bare : Below → Expr-F Expr Factor Term
bare y = map-Expr ((e : Expr) × ExprTame e) ((f : Factor) × FactorTame f) ((t : Term) × TermTame t) Expr Factor Term (λ e. e.0) (λ f. f.0) (λ t. t.0) y

layer : (y : Below) → Layer (bare y)
layer (Expr-F.Number n) = fixed (λ scene. clean n) (λ scene. omega arith)
layer (Expr-F.Cell at) = one_cell at
layer (Expr-F.CellAt at count place) = placed_cell at count (value_of place.0) (reads place.0) place.1
layer (Expr-F.Mail i) = record { same = λ u scene xs ys alike h. refl; few = λ scene xs. omega arith }
layer (Expr-F.Loop i) = record { same = λ u scene xs ys alike h. refl; few = λ scene xs. omega arith }
layer Expr-F.Index = record { same = λ u scene xs ys alike h. refl; few = λ scene xs. omega arith }
layer Expr-F.Row = record { same = λ u scene xs ys alike h. refl; few = λ scene xs. omega arith }
layer Expr-F.Col = record { same = λ u scene xs ys alike h. refl; few = λ scene xs. omega arith }
layer Expr-F.Which = record { same = λ u scene xs ys alike h. refl; few = λ scene xs. omega arith }
layer Expr-F.Iter = record { same = λ u scene xs ys alike h. refl; few = λ scene xs. omega arith }
layer (Expr-F.Minus e) = unary (λ w. record { value = int_wrapping_sub w64 (pos 0) w.value; slip = w.slip }) (value_of e.0) (reads e.0) (λ w h. h) e.1
layer (Expr-F.Not e) = unary (λ w. record { value = truth (not (is_true w.value)); slip = w.slip }) (value_of e.0) (reads e.0) (λ w h. h) e.1
layer (Expr-F.Least a b) = binary (both_of int_min) (value_of a.0) (value_of b.0) (reads a.0) (reads b.0) (joined_few int_min) a.1 b.1
layer (Expr-F.Greatest a b) = binary (both_of int_max) (value_of a.0) (value_of b.0) (reads a.0) (reads b.0) (joined_few int_max) a.1 b.1
layer (Expr-F.Compare op a b) =
    binary (both_of (λ x y. truth (compared op x y))) (value_of a.0) (value_of b.0) (reads a.0) (reads b.0) (joined_few (λ x y. truth (compared op x y))) a.1 b.1
layer (Expr-F.Sum first others) = sum_tame others (value_of first.0) (reads first.0) first.1
layer (Expr-F.Product first others) = product_tame others (value_of first.0) (reads first.0) first.1
layer (Expr-F.All operands) = record { same = λ u scene xs ys alike h. all_same operands u scene xs ys true 0 alike h; few = λ scene xs. all_few operands scene xs true 0 (omega arith) }
layer (Expr-F.Any operands) = record { same = λ u scene xs ys alike h. any_same operands u scene xs ys false 0 alike h; few = λ scene xs. any_few operands scene xs false 0 (omega arith) }

whole : (x : Expr-F Expr Factor Term) → Layer x → ExprTame (roll-Expr x)
whole x t =
    subst (λ m. Tame m (reads (roll-Expr x))) (sym (fold-roll-Expr Meaning FProduct TSum expr_step factor_step term_step x))
    (subst (Tame (expr_step (map-Expr Expr Factor Term Meaning FProduct TSum value_of factor_of term_of x))) (sym (fold-roll-Expr Cells Cells Cells reads_step factor_reads term_reads x)) t)

whole_factor : (x : Factor-F Expr Factor Term) → ExprTame x.value → FactorTame (roll-Factor x)
whole_factor x t =
    subst (λ (m : FProduct). Tame m.1 (reads_in_factor (roll-Factor x))) (sym (fold-roll-Factor Meaning FProduct TSum expr_step factor_step term_step x))
    (subst (Tame (value_of x.value)) (sym (fold-roll-Factor Cells Cells Cells reads_step factor_reads term_reads x)) t)

whole_term : (x : Term-F Expr Factor Term) → ExprTame x.value → TermTame (roll-Term x)
whole_term x t =
    subst (λ (m : TSum). Tame m.1 (reads_in_term (roll-Term x))) (sym (fold-roll-Term Meaning FProduct TSum expr_step factor_step term_step x))
    (subst (Tame (value_of x.value)) (sym (fold-roll-Term Cells Cells Cells reads_step factor_reads term_reads x)) t)

pub value_tame : (e : Expr) → Tame (value_of e) (reads e)
value_tame = ind-Expr ExprTame FactorTame TermTame
    (λ x y is. whole x (subst Layer is (layer y)))
    (λ x y is. whole_factor x (subst (λ (z : Factor-F Expr Factor Term). ExprTame z.value) is y.value.1))
    (λ x y is. whole_term x (subst (λ (z : Term-F Expr Factor Term). ExprTame z.value) is y.value.1))
