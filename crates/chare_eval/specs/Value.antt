-- What an expression computes.
use Rattle.std.specs.Prelude.{ℕ, zero, suc, ◌+◌, min, ℤ, pos, negsuc, Bool, true, false, not, ◌&&◌, ◌||◌, List, [], ◌∷◌, if◌then◌else◌, nat_lt, slice_get, Option, Some, None, unwrap_or, int_lt, int_rem}
use Rattle.std.specs.Int.{w64, cast_signed, int_wrapping_add, int_wrapping_sub, int_wrapping_mul, int_wrapping_div, int_min, int_max}
use Rattle.std.specs.Ordering.{int_eq}
use Rattle.chare_base.specs.declared.expression.AddOp.{AddOp}
use Rattle.chare_base.specs.declared.expression.AddOp.TheVariants as adds
use Rattle.chare_base.specs.declared.expression.CompareOp.{CompareOp}
use Rattle.chare_base.specs.declared.expression.CompareOp.TheVariants.{Equal, NotEqual, Less, LessOrEqual, Greater, GreaterOrEqual}
use Rattle.chare_base.specs.declared.expression.MulOp.{MulOp}
use Rattle.chare_base.specs.declared.expression.MulOp.TheVariants.{Times, Divide, Remainder}
use Rattle.chare_base.specs.declared.expression.Expr.{Expr}
use Rattle.chare_base.specs.declared.expression.Term.{Term}
use Rattle.chare_base.specs.declared.expression.Factor.{Factor}
use Rattle.chare_base.specs.declared.expression.Expr.TheOpen.{Expr-F, Factor-F, Term-F}
use Rattle.chare_base.specs.declared.expression.Expr.TheFolds.{fold-Expr, fold-Factor, fold-Term}
use Rattle.chare_eval.specs.declared.value.Computed.{Computed}
use Rattle.chare_eval.specs.declared.value.Scene.{Scene}

-- ---- slips

-- the kinds of slips: a division by zero, a read out of range, a write out of range
abbrev pub division : ℕ
division = 1

abbrev pub read : ℕ
read = 2

abbrev pub write : ℕ
write = 3

-- the lesser of two kinds, where 0 is no slip
abbrev pub least_kind : ℕ → ℕ → ℕ
least_kind zero b = b
least_kind (suc a) zero = suc a
least_kind (suc a) (suc b) = min (suc a) (suc b)

-- a value without a slip
abbrev pub clean : ℤ → Computed
clean v = record { value = v; slip = 0 }

-- a value behind an earlier slip
abbrev pub after : ℕ → Computed → Computed
after kind c = record { value = c.value; slip = least_kind kind c.slip }

-- ---- cells

abbrev pub cell_found : Option ℤ → Computed
cell_found (Some v) = clean v
cell_found None = record { value = pos 0; slip = read }

-- the cell at a place of the state whose count cells begin at this one
abbrev pub cell_in : List ℤ → ℕ → ℕ → ℤ → Computed
cell_in cells at count (pos i) = if nat_lt i count then cell_found (slice_get cells (at + i)) else cell_found None
cell_in cells at count (negsuc i) = cell_found None

-- a number of a list, or 0 where there is none
abbrev pub number_at : List ℤ → ℕ → ℤ
number_at numbers at = unwrap_or (slice_get numbers at) (pos 0)

-- ---- operators, all in 64 bits that wrap

abbrev pub added : AddOp → ℤ → ℤ → ℤ
added adds.Plus x y = int_wrapping_add w64 x y
added adds.Minus x y = int_wrapping_sub w64 x y

-- Division truncates. By zero it gives 0, which is a slip; the least number divided by -1 is itself.
abbrev pub divided : ℤ → ℤ → Computed
divided x y = if int_eq y (pos 0) then record { value = pos 0; slip = division } else clean (int_wrapping_div w64 x y)

abbrev pub remaining : ℤ → ℤ → Computed
remaining x y = if int_eq y (pos 0) then record { value = pos 0; slip = division } else clean (int_rem x y)

abbrev pub multiplied : MulOp → ℤ → ℤ → Computed
multiplied Times x y = clean (int_wrapping_mul w64 x y)
multiplied Divide x y = divided x y
multiplied Remainder x y = remaining x y

abbrev pub compared : CompareOp → ℤ → ℤ → Bool
compared Equal x y = int_eq x y
compared NotEqual x y = not (int_eq x y)
compared Less x y = int_lt x y
compared LessOrEqual x y = not (int_lt y x)
compared Greater x y = int_lt y x
compared GreaterOrEqual x y = not (int_lt x y)

-- every number but 0 is true
abbrev pub is_true : ℤ → Bool
is_true x = not (int_eq x (pos 0))

abbrev pub truth : Bool → ℤ
truth true = pos 1
truth false = pos 0

-- two operands, each with its slip
abbrev pub sum_of : AddOp → Computed → Computed → Computed
sum_of op a b = record { value = added op a.value b.value; slip = least_kind a.slip b.slip }

abbrev pub product_of : MulOp → Computed → Computed → Computed
product_of op a b = after (least_kind a.slip b.slip) (multiplied op a.value b.value)

abbrev pub both_of : (ℤ → ℤ → ℤ) → Computed → Computed → Computed
both_of op a b = record { value = op a.value b.value; slip = least_kind a.slip b.slip }

-- ---- expressions

-- what an expression computes in each scene, over each list of cells
abbrev pub Meaning : Type 0
Meaning = Scene → List ℤ → Computed

-- a chain of operands, from the left
abbrev pub sum_from : List (AddOp × Meaning) → Scene → List ℤ → Computed → Computed
sum_from [] scene cells sum = sum
sum_from (t ∷ more) scene cells sum = sum_from more scene cells (sum_of t.0 sum (t.1 scene cells))

abbrev pub product_from : List (MulOp × Meaning) → Scene → List ℤ → Computed → Computed
product_from [] scene cells product = product
product_from (f ∷ more) scene cells product = product_from more scene cells (product_of f.0 product (f.1 scene cells))

-- All operands are evaluated, each with its slip.
abbrev pub all_from : List Meaning → Scene → List ℤ → Bool → ℕ → Computed
all_from [] scene cells holds kind = record { value = truth holds; slip = kind }
all_from (m ∷ more) scene cells holds kind =
    all_from more scene cells (holds && is_true (m scene cells).value) (least_kind kind (m scene cells).slip)

abbrev pub any_from : List Meaning → Scene → List ℤ → Bool → ℕ → Computed
any_from [] scene cells holds kind = record { value = truth holds; slip = kind }
any_from (m ∷ more) scene cells holds kind =
    any_from more scene cells (holds || is_true (m scene cells).value) (least_kind kind (m scene cells).slip)

abbrev pub expr_step : Expr-F Meaning (MulOp × Meaning) (AddOp × Meaning) → Meaning
expr_step (Expr-F.Number n) scene cells = clean n
expr_step (Expr-F.Cell at) scene cells = cell_found (slice_get cells at)
expr_step (Expr-F.CellAt at count place) scene cells = after (place scene cells).slip (cell_in cells at count (place scene cells).value)
expr_step (Expr-F.Mail i) scene cells = clean (number_at scene.values i)
expr_step (Expr-F.Loop i) scene cells = clean (number_at scene.loops i)
expr_step Expr-F.Index scene cells = clean (pos scene.index)
expr_step Expr-F.Row scene cells = clean (pos scene.row)
expr_step Expr-F.Col scene cells = clean (pos scene.col)
expr_step Expr-F.Which scene cells = clean (pos scene.which)
expr_step Expr-F.Iter scene cells = clean (cast_signed w64 scene.iteration)
expr_step (Expr-F.Minus e) scene cells = record { value = int_wrapping_sub w64 (pos 0) (e scene cells).value; slip = (e scene cells).slip }
expr_step (Expr-F.Not e) scene cells = record { value = truth (not (is_true (e scene cells).value)); slip = (e scene cells).slip }
expr_step (Expr-F.Least a b) scene cells = both_of int_min (a scene cells) (b scene cells)
expr_step (Expr-F.Greatest a b) scene cells = both_of int_max (a scene cells) (b scene cells)
expr_step (Expr-F.Compare op a b) scene cells = both_of (λ x y. truth (compared op x y)) (a scene cells) (b scene cells)
expr_step (Expr-F.Sum first others) scene cells = sum_from others scene cells (first scene cells)
expr_step (Expr-F.Product first others) scene cells = product_from others scene cells (first scene cells)
expr_step (Expr-F.All operands) scene cells = all_from operands scene cells true 0
expr_step (Expr-F.Any operands) scene cells = any_from operands scene cells false 0

abbrev pub factor_step : Factor-F Meaning (MulOp × Meaning) (AddOp × Meaning) → MulOp × Meaning
factor_step f = (f.op, f.value)

abbrev pub term_step : Term-F Meaning (MulOp × Meaning) (AddOp × Meaning) → AddOp × Meaning
term_step t = (t.op, t.value)

abbrev pub value_of : Expr → Meaning
value_of = fold-Expr Meaning (MulOp × Meaning) (AddOp × Meaning) expr_step factor_step term_step

-- an operand with its operator
abbrev pub factor_of : Factor → MulOp × Meaning
factor_of = fold-Factor Meaning (MulOp × Meaning) (AddOp × Meaning) expr_step factor_step term_step

abbrev pub term_of : Term → AddOp × Meaning
term_of = fold-Term Meaning (MulOp × Meaning) (AddOp × Meaning) expr_step factor_step term_step
