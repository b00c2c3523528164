use Rattle.std.proofs.Common.{◌≡◌, drop}
use Rattle.job_rules.specs.Steps.{starts_walked}
use Rattle.chare_checker.proofs.steps.walk_starts.Given as goal

abbrev pub invariant-loop-state : goal.invariant-loop-state
invariant-loop-state l = starts_walked l.scope.text.now l.scope.table.now (drop l.state-index l.states) l.notes ≡ starts_walked l.scope.text.now l.scope.table.now l.states l.fn.notes
