use Rattle.std.proofs.Common.{◌≡◌, drop}
use Rattle.job_rules.specs.Limits.{arrays_over}
use Rattle.chare_checker.proofs.limits.arrays_over.Given as goal

abbrev pub invariant-loop-i : goal.invariant-loop-i
invariant-loop-i l = arrays_over l.i l.elements l.all_cells l.found (drop l.i l.arrays) ≡ arrays_over 0 0 0 l.fn.found l.arrays
