-- The plan of a statement, within the loops whose variables have these names.
use Rattle.std.specs.Prelude.{ℕ, List, [], ◌∷◌, ◌++◌, length, Option, Some, None}
use Rattle.chare_base.specs.declared.expression.Expr.{Expr}
use Rattle.chare_base.specs.declared.plan.Stmt.{Stmt}
use Rattle.chare_base.specs.declared.plan.Stmt.TheVariants as stmts
use Rattle.chare_base.specs.declared.range.Range.{Range}
use Rattle.job_tree.specs.declared.token.Span.{Span}
use Rattle.job_tree.specs.declared.tree.Block.{Block}
use Rattle.job_tree.specs.declared.tree.StmtDecl.{StmtDecl}
use Rattle.job_tree.specs.declared.tree.StmtDecl.TheOpen.{Block-F, StmtDecl-F}
use Rattle.job_tree.specs.declared.tree.StmtDecl.TheFolds.{fold-Block, fold-StmtDecl}
use Rattle.job_rules.specs.declared.tables.JobNames.{JobNames}
use Rattle.job_rules.specs.Names.{Known, bytes_at, lookup}
use Rattle.job_rules.specs.PlannedExpressions.{place_planned, value_planned, values_planned}
use Rattle.job_rules.specs.PlannedNames.{entry_meant, member, range_or_none, reduction_meant, state_range}
use Rattle.job_rules.specs.Numbers.{narrow8, signed64}

-- what a node gives within loops
abbrev pub Within : Type 0 → Type 0
Within X = List Span → X

abbrev pub each_planned : List (Within Stmt) → Within (List Stmt)
each_planned [] loops = []
each_planned (p ∷ more) loops = p loops ∷ each_planned more loops

-- An `if` without an `else` has an empty one.
abbrev pub other_planned : Option (Within (List Stmt)) → Within (List Stmt)
other_planned None loops = []
other_planned (Some block) loops = block loops

-- a write to a state's cell, with an index exactly where the text has one
abbrev pub assigned : Range → Option Expr → Expr → Stmt
assigned range None value = stmts.Set range.at value
assigned range (Some place) value = stmts.SetAt range.at range.count place value

-- names are those of the job, of an array's table and of a part's parameters
module _ (text : List ℕ) (names : JobNames) (table : List Known) (params : List Span) where
  abbrev pub stmt_step : StmtDecl-F (Within Stmt) (Within (List Stmt)) → Within Stmt
  stmt_step (StmtDecl-F.Assign target index value) loops =
      assigned (range_or_none (state_range text table target)) (place_planned text table params loops index) (value_planned text table params loops value)
  stmt_step (StmtDecl-F.If at test block other) loops = stmts.If (value_planned text table params loops test) (block loops) (other_planned other loops)
  stmt_step (StmtDecl-F.For at name low high block) loops =
      stmts.For (narrow8 (length loops)) (signed64 low) (signed64 high) (block (loops ++ name ∷ []))
  stmt_step (StmtDecl-F.Send at array entry values) loops =
      stmts.Send (entry_meant (member text names array entry)) (values_planned text table params loops values)
  stmt_step (StmtDecl-F.Contribute at name value) loops =
      stmts.Contribute (reduction_meant (lookup table (bytes_at text name))) (value_planned text table params loops value)

  abbrev pub block_step : Block-F (Within Stmt) (Within (List Stmt)) → Within (List Stmt)
  block_step b loops = each_planned b.statements loops

  abbrev pub stmt_planned : StmtDecl → Within Stmt
  stmt_planned = fold-StmtDecl (Within Stmt) (Within (List Stmt)) stmt_step block_step

  abbrev pub block_planned : Block → Within (List Stmt)
  block_planned = fold-Block (Within Stmt) (Within (List Stmt)) stmt_step block_step
