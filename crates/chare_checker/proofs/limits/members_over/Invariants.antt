use Rattle.std.proofs.Common.{◌≡◌, drop}
use Rattle.job_rules.specs.Limits.{members_over}
use Rattle.chare_checker.proofs.limits.members_over.Given as goal

abbrev pub invariant-loop-i : goal.invariant-loop-i
invariant-loop-i l = members_over l.i l.found (drop l.i l.members) ≡ members_over 0 l.fn.found l.members
