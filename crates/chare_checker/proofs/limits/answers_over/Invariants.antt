use Rattle.std.proofs.Common.{◌≡◌, drop}
use Rattle.job_rules.specs.Limits.{answers_over}
use Rattle.chare_checker.proofs.limits.answers_over.Given as goal

abbrev pub invariant-loop-i : goal.invariant-loop-i
invariant-loop-i l = answers_over l.i l.found (drop l.i l.answers) ≡ answers_over 0 l.fn.found l.answers
