use Rattle.std.proofs.Common.{◌≡◌, length}
use Rattle.chare_base.specs.Names.{distinct_by, array_name}
use Rattle.chare_base.proofs.rules.names.distinct_arrays.Given as goal

abbrev pub invariant-arrays : goal.invariant-arrays
invariant-arrays l = distinct_by array_name l.rest ≡ distinct_by array_name l.arrays

abbrev pub decreases-arrays : goal.decreases-arrays
decreases-arrays l = length l.rest
