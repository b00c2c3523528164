use Rattle.std.proofs.Common.{◌≡◌, drop, max}
use Rattle.chare_base.specs.Elements.{most_steps}
use Rattle.chare_base.proofs.elements.most_steps.Given as goal

abbrev pub invariant-loop-array : goal.invariant-loop-array
invariant-loop-array l = max l.most (most_steps (drop l.array-index l.arrays)) ≡ most_steps l.arrays
