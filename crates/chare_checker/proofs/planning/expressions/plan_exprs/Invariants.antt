use Rattle.std.proofs.Common.{◌≡◌, ◌++◌, drop, map}
use Rattle.job_rules.specs.PlannedExpressions.{expr_planned}
use Rattle.chare_checker.proofs.planning.expressions.plan_exprs.Given as goal

abbrev pub invariant-loop-expr : goal.invariant-loop-expr
invariant-loop-expr l = l.planned ++ map (expr_planned l.scope.text.now l.scope.table.now l.scope.params.now l.loops) (drop l.expr-index l.exprs) ≡ map (expr_planned l.scope.text.now l.scope.table.now l.scope.params.now l.loops) l.exprs
