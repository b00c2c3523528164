-- The plan of an expression.
use Rattle.std.specs.Prelude.{ℕ, pos, List, [], ◌∷◌, map, Option, Some, None}
use Rattle.chare_base.specs.declared.expression.AddOp.{AddOp}
use Rattle.chare_base.specs.declared.expression.AddOp.TheVariants as adds
use Rattle.chare_base.specs.declared.expression.CompareOp.{CompareOp}
use Rattle.chare_base.specs.declared.expression.CompareOp.TheVariants as compares
use Rattle.chare_base.specs.declared.expression.MulOp.{MulOp}
use Rattle.chare_base.specs.declared.expression.MulOp.TheVariants as muls
use Rattle.chare_base.specs.declared.expression.Expr.{Expr}
use Rattle.chare_base.specs.declared.expression.Expr.TheVariants as exprs
use Rattle.chare_base.specs.declared.expression.Factor.{Factor, roll-Factor}
use Rattle.chare_base.specs.declared.expression.Term.{Term, roll-Term}
use Rattle.chare_base.specs.declared.range.Range.{Range}
use Rattle.job_tree.specs.declared.token.Span.{Span}
use Rattle.job_tree.specs.declared.tree.AddOp.{AddOp as AddDecl}
use Rattle.job_tree.specs.declared.tree.AddOp.TheVariants as tree_adds
use Rattle.job_tree.specs.declared.tree.CompareOp.{CompareOp as CompareDecl}
use Rattle.job_tree.specs.declared.tree.CompareOp.TheVariants as tree_compares
use Rattle.job_tree.specs.declared.tree.MulOp.{MulOp as MulDecl}
use Rattle.job_tree.specs.declared.tree.MulOp.TheVariants as tree_muls
use Rattle.job_tree.specs.declared.tree.Here.{Here}
use Rattle.job_tree.specs.declared.tree.Here.TheVariants as heres
use Rattle.job_tree.specs.declared.tree.Choice.{Choice}
use Rattle.job_tree.specs.declared.tree.Choice.TheVariants as choices
use Rattle.job_tree.specs.declared.tree.Atom.{Atom}
use Rattle.job_tree.specs.declared.tree.Conj.{Conj}
use Rattle.job_tree.specs.declared.tree.Expr.{Expr as ExprDecl}
use Rattle.job_tree.specs.declared.tree.Product.{Product}
use Rattle.job_tree.specs.declared.tree.ProductTerm.{ProductTerm}
use Rattle.job_tree.specs.declared.tree.Sum.{Sum}
use Rattle.job_tree.specs.declared.tree.SumTerm.{SumTerm}
use Rattle.job_tree.specs.declared.tree.Test.{Test}
use Rattle.job_tree.specs.declared.tree.Unary.{Unary}
use Rattle.job_tree.specs.declared.tree.Values.{Values}
use Rattle.job_tree.specs.declared.tree.Atom.TheOpen.{Atom-F, Test-F, Unary-F, Conj-F, Expr-F, Product-F, ProductTerm-F, Sum-F, SumTerm-F}
use Rattle.job_tree.specs.declared.tree.Atom.TheFolds.{fold-Atom, fold-Test, fold-Unary, fold-Conj, fold-Expr, fold-Product, fold-ProductTerm, fold-Sum, fold-SumTerm}
use Rattle.job_rules.specs.Names.{Known, local_named}
use Rattle.job_rules.specs.PlannedNames.{state_range, range_or_none}
use Rattle.job_rules.specs.Numbers.{narrow8, narrow63}

-- ---- operators

abbrev pub add_op : AddDecl → AddOp
add_op tree_adds.Plus = adds.Plus
add_op tree_adds.Minus = adds.Minus

abbrev pub mul_op : MulDecl → MulOp
mul_op tree_muls.Times = muls.Times
mul_op tree_muls.Divide = muls.Divide
mul_op tree_muls.Remainder = muls.Remainder

abbrev pub compare_op : CompareDecl → CompareOp
compare_op tree_compares.Equal = compares.Equal
compare_op tree_compares.NotEqual = compares.NotEqual
compare_op tree_compares.Less = compares.Less
compare_op tree_compares.LessEqual = compares.LessOrEqual
compare_op tree_compares.Greater = compares.Greater
compare_op tree_compares.GreaterEqual = compares.GreaterOrEqual

abbrev pub here : Here → Expr
here heres.Index = exprs.Index
here heres.Row = exprs.Row
here heres.Col = exprs.Col
here heres.Cell = exprs.Which
here heres.Iter = exprs.Iter

abbrev pub chosen : Choice → Expr → Expr → Expr
chosen choices.Min a b = exprs.Least a b
chosen choices.Max a b = exprs.Greatest a b

-- ---- chains, in which an operand alone is itself

abbrev pub any_of : Expr → List Expr → Expr
any_of first [] = first
any_of first (e ∷ more) = exprs.Any (first ∷ e ∷ more)

abbrev pub all_of : Expr → List Expr → Expr
all_of first [] = first
all_of first (e ∷ more) = exprs.All (first ∷ e ∷ more)

abbrev pub sum_of : Expr → List Term → Expr
sum_of first [] = first
sum_of first (t ∷ more) = exprs.Sum first (t ∷ more)

abbrev pub product_of : Expr → List Factor → Expr
product_of first [] = first
product_of first (f ∷ more) = exprs.Product first (f ∷ more)

-- ---- names

-- a parameter of this number, else a loop's variable of this number, else nothing
abbrev pub local : Option ℕ → Option ℕ → Expr
local (Some value) slot = exprs.Mail (narrow8 value)
local None (Some slot) = exprs.Loop (narrow8 slot)
local None None = exprs.Cell 4294967295

-- a state with these cells, else what the name stands for elsewhere
abbrev pub named : Option Range → Expr → Expr
named (Some range) other = exprs.Cell range.at
named None other = other

-- the cell of a state at a place
abbrev pub placed : Range → Expr → Expr
placed range place = exprs.CellAt range.at range.count place

-- ---- expressions, whose names are those of an array's table, of a part's parameters and of the loops around

module _ (text : List ℕ) (table : List Known) (params loops : List Span) where
  abbrev pub name_planned : Span → Expr
  name_planned name = named (state_range text table name) (local (local_named text params name) (local_named text loops name))

  abbrev pub atom_step : Atom-F Expr Expr Expr Expr Expr Expr Factor Expr Term → Expr
  atom_step (Atom-F.Number n) = exprs.Number (pos (narrow63 n.value))
  atom_step (Atom-F.Name name) = name_planned name
  atom_step (Atom-F.Cell name index) = placed (range_or_none (state_range text table name)) index
  atom_step (Atom-F.Here at word) = here word
  atom_step (Atom-F.Choice at choice first second) = chosen choice first second
  atom_step (Atom-F.Group at inner) = inner

  abbrev pub test_step : Test-F Expr Expr Expr Expr Expr Expr Factor Expr Term → Expr
  test_step (Test-F.Not at operand) = exprs.Not operand
  test_step (Test-F.Alone sum) = sum
  test_step (Test-F.Compare left op right) = exprs.Compare (compare_op op) left right

  abbrev pub unary_step : Unary-F Expr Expr Expr Expr Expr Expr Factor Expr Term → Expr
  unary_step (Unary-F.Minus at operand) = exprs.Minus operand
  unary_step (Unary-F.Atom a) = a

  abbrev pub conj_step : Conj-F Expr Expr Expr Expr Expr Expr Factor Expr Term → Expr
  conj_step c = all_of c.first c.others

  abbrev pub expr_step : Expr-F Expr Expr Expr Expr Expr Expr Factor Expr Term → Expr
  expr_step e = any_of e.first e.others

  abbrev pub product_step : Product-F Expr Expr Expr Expr Expr Expr Factor Expr Term → Expr
  product_step p = product_of p.first p.others

  abbrev pub factor_step : ProductTerm-F Expr Expr Expr Expr Expr Expr Factor Expr Term → Factor
  factor_step f = roll-Factor (record { op = mul_op f.op; value = f.value })

  abbrev pub sum_step : Sum-F Expr Expr Expr Expr Expr Expr Factor Expr Term → Expr
  sum_step s = sum_of s.first s.others

  abbrev pub term_step : SumTerm-F Expr Expr Expr Expr Expr Expr Factor Expr Term → Term
  term_step t = roll-Term (record { op = add_op t.op; value = t.value })

  abbrev pub atom_planned : Atom → Expr
  atom_planned = fold-Atom Expr Expr Expr Expr Expr Expr Factor Expr Term atom_step test_step unary_step conj_step expr_step product_step factor_step sum_step term_step

  abbrev pub test_planned : Test → Expr
  test_planned = fold-Test Expr Expr Expr Expr Expr Expr Factor Expr Term atom_step test_step unary_step conj_step expr_step product_step factor_step sum_step term_step

  abbrev pub unary_planned : Unary → Expr
  unary_planned = fold-Unary Expr Expr Expr Expr Expr Expr Factor Expr Term atom_step test_step unary_step conj_step expr_step product_step factor_step sum_step term_step

  abbrev pub conj_planned : Conj → Expr
  conj_planned = fold-Conj Expr Expr Expr Expr Expr Expr Factor Expr Term atom_step test_step unary_step conj_step expr_step product_step factor_step sum_step term_step

  abbrev pub expr_planned : ExprDecl → Expr
  expr_planned = fold-Expr Expr Expr Expr Expr Expr Expr Factor Expr Term atom_step test_step unary_step conj_step expr_step product_step factor_step sum_step term_step

  abbrev pub product_planned : Product → Expr
  product_planned = fold-Product Expr Expr Expr Expr Expr Expr Factor Expr Term atom_step test_step unary_step conj_step expr_step product_step factor_step sum_step term_step

  abbrev pub factor_planned : ProductTerm → Factor
  factor_planned = fold-ProductTerm Expr Expr Expr Expr Expr Expr Factor Expr Term atom_step test_step unary_step conj_step expr_step product_step factor_step sum_step term_step

  abbrev pub sum_planned : Sum → Expr
  sum_planned = fold-Sum Expr Expr Expr Expr Expr Expr Factor Expr Term atom_step test_step unary_step conj_step expr_step product_step factor_step sum_step term_step

  abbrev pub term_planned : SumTerm → Term
  term_planned = fold-SumTerm Expr Expr Expr Expr Expr Expr Factor Expr Term atom_step test_step unary_step conj_step expr_step product_step factor_step sum_step term_step

-- ---- the expressions of a statement

unfoldable pub value_planned : List ℕ → List Known → List Span → List Span → ExprDecl → Expr
value_planned text table params loops e = expr_planned text table params loops e

-- the place of a cell, where the text has an index
unfoldable pub place_planned : List ℕ → List Known → List Span → List Span → Option ExprDecl → Option Expr
place_planned text table params loops None = None
place_planned text table params loops (Some e) = Some (expr_planned text table params loops e)

unfoldable pub values_planned : List ℕ → List Known → List Span → List Span → Values → List Expr
values_planned text table params loops v = map (expr_planned text table params loops) (v.first ∷ v.others)
