use Rattle.std.proofs.Common.{◌≡◌, drop}
use Rattle.job_rules.specs.Limits.{parts_over}
use Rattle.chare_checker.proofs.limits.parts_over.Given as goal

abbrev pub invariant-loop-i : goal.invariant-loop-i
invariant-loop-i l = parts_over l.i l.found (drop l.i l.parts) ≡ parts_over 0 l.fn.found l.parts
