use Rattle.std.proofs.Common.{◌≡◌, drop}
use Rattle.job_rules.specs.Steps.{steps_walked}
use Rattle.chare_checker.proofs.steps.walk_steps.Given as goal

abbrev pub invariant-loop-number : goal.invariant-loop-number
invariant-loop-number l = steps_walked l.scope.text.now l.scope.names.now l.scope.table.now l.array l.number (drop l.number l.steps) l.notes ≡ steps_walked l.scope.text.now l.scope.names.now l.scope.table.now l.array 0 l.steps l.fn.notes
