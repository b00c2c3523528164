use Rattle.std.proofs.Common.{◌≡◌, drop}
use Rattle.job_rules.specs.Bounds.{member_bound}
use Rattle.job_rules.specs.Faults.{first_of}
use Rattle.chare_checker.proofs.bounds.members_bounds.Given as goal

abbrev pub invariant-loop-member : goal.invariant-loop-member
invariant-loop-member l = first_of member_bound l.found (drop l.member-index l.members) ≡ first_of member_bound l.fn.found l.members
