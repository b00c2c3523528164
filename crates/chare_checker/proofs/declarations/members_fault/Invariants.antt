use Rattle.std.proofs.Common.{◌≡◌, drop}
use Rattle.job_rules.specs.Declarations.{members_found}
use Rattle.chare_checker.proofs.declarations.members_fault.Given as goal

abbrev pub invariant-loop-member : goal.invariant-loop-member
invariant-loop-member l = members_found l.text l.names l.arrays l.number l.array.sizes l.counts l.found (drop l.member-index l.member-items) ≡ members_found l.text l.names l.arrays l.number l.array.sizes l.fn.counts l.fn.found l.array.members
