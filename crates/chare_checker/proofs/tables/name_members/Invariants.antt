use Rattle.std.proofs.Common.{◌≡◌, ◌++◌, drop}
use Rattle.job_rules.specs.Tables.{no_counts, tables_from}
use Rattle.chare_checker.proofs.tables.name_members.Given as goal

abbrev pub invariant-loop-array : goal.invariant-loop-array
invariant-loop-array l = l.tables ++ tables_from l.text l.names l.counts (drop l.array-index l.arrays) ≡ tables_from l.text l.names no_counts l.arrays
