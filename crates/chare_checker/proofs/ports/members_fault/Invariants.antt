use Rattle.std.proofs.Common.{◌≡◌, drop}
use Rattle.job_rules.specs.Ports.{members_found}
use Rattle.chare_checker.proofs.ports.members_fault.Given as goal

abbrev pub invariant-loop-member : goal.invariant-loop-member
invariant-loop-member l = members_found l.sent l.received l.port l.found (drop l.member-index l.members) ≡ members_found l.sent l.received l.first l.fn.found l.members
