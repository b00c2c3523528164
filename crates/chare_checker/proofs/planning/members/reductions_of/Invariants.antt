use Rattle.std.proofs.Common.{◌≡◌, ◌++◌, drop}
use Rattle.job_rules.specs.PlannedMembers.{reductions_of}
use Rattle.chare_checker.proofs.planning.members.reductions_of.Given as goal

abbrev pub invariant-loop-member : goal.invariant-loop-member
invariant-loop-member l = l.planned ++ reductions_of l.text l.owner (drop l.member-index l.members) ≡ reductions_of l.text l.owner l.members
