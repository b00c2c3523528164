use Rattle.std.proofs.Common.{◌≡◌, drop}
use Rattle.job_rules.specs.Limits.{steps_over}
use Rattle.chare_checker.proofs.limits.steps_over.Given as goal

abbrev pub invariant-loop-i : goal.invariant-loop-i
invariant-loop-i l = steps_over l.i l.found (drop l.i l.steps) ≡ steps_over 0 l.fn.found l.steps
