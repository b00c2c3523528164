use Rattle.std.proofs.Common.{◌≡◌, ◌++◌, drop}
use Rattle.job_rules.specs.PlannedMembers.{entries_from}
use Rattle.chare_checker.proofs.planning.members.plan_entries.Given as goal

abbrev pub invariant-loop-owner : goal.invariant-loop-owner
invariant-loop-owner l = l.planned ++ entries_from l.text l.names l.owner (drop l.owner l.arrays) ≡ entries_from l.text l.names 0 l.arrays
