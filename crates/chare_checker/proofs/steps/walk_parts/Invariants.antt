use Rattle.std.proofs.Common.{◌≡◌, drop}
use Rattle.job_rules.specs.Steps.{parts_walked}
use Rattle.chare_checker.proofs.steps.walk_parts.Given as goal

abbrev pub invariant-loop-number : goal.invariant-loop-number
invariant-loop-number l = parts_walked l.scope.text.now l.scope.names.now l.scope.table.now l.array l.step l.number (drop l.number l.parts) l.notes ≡ parts_walked l.scope.text.now l.scope.names.now l.scope.table.now l.array l.step 0 l.parts l.fn.notes
