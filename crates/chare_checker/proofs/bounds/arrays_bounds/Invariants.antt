use Rattle.std.proofs.Common.{◌≡◌, drop}
use Rattle.job_rules.specs.Bounds.{arrays_bounds}
use Rattle.chare_checker.proofs.bounds.arrays_bounds.Given as goal

abbrev pub invariant-loop-array : goal.invariant-loop-array
invariant-loop-array l = arrays_bounds l.found (drop l.array-index l.arrays) ≡ arrays_bounds l.fn.found l.arrays
