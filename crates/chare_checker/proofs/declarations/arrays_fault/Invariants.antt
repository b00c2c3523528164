use Rattle.std.proofs.Common.{◌≡◌, drop}
use Rattle.job_rules.specs.Declarations.{arrays_found}
use Rattle.job_rules.specs.Tables.{no_counts}
use Rattle.chare_checker.proofs.declarations.arrays_fault.Given as goal

abbrev pub invariant-loop-number : goal.invariant-loop-number
invariant-loop-number l = arrays_found l.text l.names l.arrays l.number l.counts l.found (drop l.number l.arrays) ≡ arrays_found l.text l.names l.arrays 0 no_counts l.fn.found l.arrays
