-- The cells that a block uses and writes.
use Rattle.std.specs.Prelude.{ℕ, ◌+◌, Bool, false, ◌||◌, ◌&&◌, nat_lt, List, [], ◌∷◌, map}
use Rattle.chare_base.specs.declared.expression.Expr.{Expr}
use Rattle.chare_base.specs.declared.expression.Expr.TheOpen.{Expr-F, Term-F, Factor-F}
use Rattle.chare_base.specs.declared.expression.Expr.TheFolds.{fold-Expr, fold-Term, fold-Factor}
use Rattle.chare_base.specs.declared.expression.Term.{Term}
use Rattle.chare_base.specs.declared.expression.Factor.{Factor}
use Rattle.chare_base.specs.declared.range.Range.{Range}
use Rattle.chare_base.specs.declared.plan.Stmt.{Stmt}
use Rattle.chare_base.specs.declared.plan.Stmt.TheOpen.{Stmt-F}
use Rattle.chare_base.specs.declared.plan.Stmt.TheFolds.{fold-Stmt}

-- whether two ranges have a cell in common
abbrev pub meet : Range → Range → Bool
meet a b = nat_lt a.at (b.at + b.count) && nat_lt b.at (a.at + a.count)

abbrev pub range_of : ℕ → ℕ → Range
range_of at count = record { at = at; count = count }

-- whether a cell of a range is read, or written
abbrev pub Cells : Type 0
Cells = Range → Bool

abbrev pub any_of : List Cells → Cells
any_of [] range = false
any_of (c ∷ more) range = c range || any_of more range

abbrev pub reads_step : Expr-F Cells Cells Cells → Cells
reads_step (Expr-F.Number n) range = false
reads_step (Expr-F.Cell at) range = meet range (range_of at 1)
reads_step (Expr-F.CellAt at count place) range = meet range (range_of at count) || place range
reads_step (Expr-F.Mail i) range = false
reads_step (Expr-F.Loop i) range = false
reads_step Expr-F.Index range = false
reads_step Expr-F.Row range = false
reads_step Expr-F.Col range = false
reads_step Expr-F.Which range = false
reads_step Expr-F.Iter range = false
reads_step (Expr-F.Minus e) range = e range
reads_step (Expr-F.Not e) range = e range
reads_step (Expr-F.Least a b) range = a range || b range
reads_step (Expr-F.Greatest a b) range = a range || b range
reads_step (Expr-F.Compare op a b) range = a range || b range
reads_step (Expr-F.Sum first others) range = first range || any_of others range
reads_step (Expr-F.Product first others) range = first range || any_of others range
reads_step (Expr-F.All operands) range = any_of operands range
reads_step (Expr-F.Any operands) range = any_of operands range

abbrev pub term_reads : Term-F Cells Cells Cells → Cells
term_reads t = t.value

abbrev pub factor_reads : Factor-F Cells Cells Cells → Cells
factor_reads f = f.value

abbrev pub reads : Expr → Cells
reads = fold-Expr Cells Cells Cells reads_step factor_reads term_reads

abbrev pub reads_in_term : Term → Cells
reads_in_term = fold-Term Cells Cells Cells reads_step factor_reads term_reads

abbrev pub reads_in_factor : Factor → Cells
reads_in_factor = fold-Factor Cells Cells Cells reads_step factor_reads term_reads

abbrev pub stmt_reads_step : Stmt-F Cells → Cells
stmt_reads_step (Stmt-F.Set at e) range = reads e range
stmt_reads_step (Stmt-F.SetAt at count place e) range = reads place range || reads e range
stmt_reads_step (Stmt-F.If test a b) range = reads test range || (any_of a range || any_of b range)
stmt_reads_step (Stmt-F.For slot low high block) range = any_of block range
stmt_reads_step (Stmt-F.Send entry values) range = any_of (map reads values) range
stmt_reads_step (Stmt-F.Contribute reduction value) range = reads value range

abbrev pub stmt_writes_step : Stmt-F Cells → Cells
stmt_writes_step (Stmt-F.Set at e) range = meet range (range_of at 1)
stmt_writes_step (Stmt-F.SetAt at count place e) range = meet range (range_of at count)
stmt_writes_step (Stmt-F.If test a b) range = any_of a range || any_of b range
stmt_writes_step (Stmt-F.For slot low high block) range = any_of block range
stmt_writes_step (Stmt-F.Send entry values) range = false
stmt_writes_step (Stmt-F.Contribute reduction value) range = false

abbrev pub stmt_reads : Stmt → Cells
stmt_reads = fold-Stmt Cells stmt_reads_step

abbrev pub stmt_writes : Stmt → Cells
stmt_writes = fold-Stmt Cells stmt_writes_step

abbrev pub writes : List Stmt → Cells
writes block = any_of (map stmt_writes block)

-- a cell is used where it is read or written
abbrev pub uses : List Stmt → Cells
uses block range = any_of (map stmt_reads block) range || writes block range

abbrev pub one : ℕ → Range
one i = range_of i 1
