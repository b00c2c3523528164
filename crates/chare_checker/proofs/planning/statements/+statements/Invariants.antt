use Rattle.std.proofs.Common.{◌≡◌, ◌++◌, drop, map}
use Rattle.job_rules.specs.PlannedStatements.{each_planned, stmt_planned}
use Rattle.chare_checker.proofs.planning.statements.+statements.Given as goal

-- the plans so far, before those of what is left
abbrev pub invariant-plan_stmts-loop-stmt : goal.invariant-plan_stmts-loop-stmt
invariant-plan_stmts-loop-stmt l = record {
  told :
      l.planned ++ each_planned (map (stmt_planned l.scope.text.now l.scope.names.now l.scope.table.now l.scope.params.now) (drop l.stmt-index l.stmts)) l.loops.items
      ≡ each_planned (map (stmt_planned l.scope.text.now l.scope.names.now l.scope.table.now l.scope.params.now) l.stmts) l.fn.loops.items;
  loops : l.loops.items ≡ l.fn.loops.items;
}
