use Rattle.std.proofs.Common.{◌≡◌, ◌++◌, drop}
use Rattle.job_rules.specs.PlannedMembers.{entries_of}
use Rattle.chare_checker.proofs.planning.members.entries_of.Given as goal

abbrev pub invariant-loop-member : goal.invariant-loop-member
invariant-loop-member l = l.planned ++ entries_of l.text l.names l.owner (drop l.member-index l.members) ≡ entries_of l.text l.names l.owner l.members
