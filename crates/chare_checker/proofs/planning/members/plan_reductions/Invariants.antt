use Rattle.std.proofs.Common.{◌≡◌, ◌++◌, drop}
use Rattle.job_rules.specs.PlannedMembers.{reductions_from}
use Rattle.chare_checker.proofs.planning.members.plan_reductions.Given as goal

abbrev pub invariant-loop-owner : goal.invariant-loop-owner
invariant-loop-owner l = l.planned ++ reductions_from l.text l.owner (drop l.owner l.arrays) ≡ reductions_from l.text 0 l.arrays
