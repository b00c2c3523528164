use Rattle.std.proofs.Common.{◌≡◌, drop}
use Rattle.job_rules.specs.Ports.{arrays_found}
use Rattle.job_rules.specs.Tables.{no_counts}
use Rattle.chare_checker.proofs.ports.arrays_fault.Given as goal

abbrev pub invariant-loop-array : goal.invariant-loop-array
invariant-loop-array l = arrays_found l.sent l.received l.counts l.found (drop l.array-index l.arrays) ≡ arrays_found l.sent l.received no_counts l.fn.found l.arrays
