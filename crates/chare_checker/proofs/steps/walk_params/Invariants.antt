use Rattle.std.proofs.Common.{◌≡◌, drop}
use Rattle.job_rules.specs.Steps.{params_walked}
use Rattle.chare_checker.proofs.steps.walk_params.Given as goal

abbrev pub invariant-loop-number : goal.invariant-loop-number
invariant-loop-number l = params_walked l.scope.text.now l.scope.table.now l.params l.number (drop l.number l.params) l.notes ≡ params_walked l.scope.text.now l.scope.table.now l.params 0 l.params l.fn.notes
