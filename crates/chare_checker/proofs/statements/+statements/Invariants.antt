use Rattle.std.proofs.Common.{◌≡◌, drop, map}
use Rattle.job_rules.specs.Statements.{each_walked, stmt_walked}
use Rattle.chare_checker.proofs.statements.+statements.Given as goal

-- what is left takes what was noted so far to the whole
abbrev pub invariant-walk_stmts-loop-stmt : goal.invariant-walk_stmts-loop-stmt
invariant-walk_stmts-loop-stmt l = record {
  told :
      each_walked (map (stmt_walked l.scope.text.now l.scope.names.now l.scope.table.now l.part l.scope.params.now) (drop l.stmt-index l.stmts)) l.loops.items l.nested l.notes
      ≡ each_walked (map (stmt_walked l.scope.text.now l.scope.names.now l.scope.table.now l.part l.scope.params.now) l.stmts) l.fn.loops.items l.nested l.fn.notes;
  loops : l.loops.items ≡ l.fn.loops.items;
}
