use Rattle.std.proofs.Common.{◌≡◌, ◌++◌, drop}
use Rattle.job_rules.specs.PlannedArrays.{arrays_from}
use Rattle.chare_checker.proofs.planning.arrays.plan_arrays.Given as goal

abbrev pub invariant-loop-number : goal.invariant-loop-number
invariant-loop-number l = l.planned ++ arrays_from l.text l.names l.number l.first (drop l.number l.arrays) ≡ arrays_from l.text l.names 0 0 l.arrays
