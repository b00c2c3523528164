use Rattle.std.proofs.Common.{◌≡◌, drop}
use Rattle.chare_base.specs.Layout.{numbered_from}
use Rattle.chare_base.proofs.rules.layout.arrays_numbered.Given as goal

abbrev pub invariant-loop-array : goal.invariant-loop-array
invariant-loop-array l = numbered_from l.next (drop l.array-index l.arrays) ≡ numbered_from 0 l.arrays
