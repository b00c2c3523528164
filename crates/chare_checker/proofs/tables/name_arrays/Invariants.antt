use Rattle.std.proofs.Common.{◌≡◌, [], drop}
use Rattle.job_rules.specs.Tables.{arrays_named}
use Rattle.chare_checker.proofs.tables.name_arrays.Given as goal

abbrev pub invariant-loop-number : goal.invariant-loop-number
invariant-loop-number l = arrays_named l.text l.number (drop l.number l.arrays) l.names ≡ arrays_named l.text 0 l.arrays []
