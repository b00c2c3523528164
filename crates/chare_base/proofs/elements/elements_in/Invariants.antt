use Rattle.std.proofs.Common.{◌≡◌, ◌+◌, drop}
use Rattle.chare_base.specs.Sizes.{elements_in}
use Rattle.chare_base.proofs.elements.elements_in.Given as goal

abbrev pub invariant-loop-array : goal.invariant-loop-array
invariant-loop-array l = l.elements + elements_in (drop l.array-index l.arrays) ≡ elements_in l.arrays
