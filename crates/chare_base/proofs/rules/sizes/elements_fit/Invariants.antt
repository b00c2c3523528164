use Rattle.std.proofs.Common.{◌≡◌, drop}
use Rattle.std.specs.Prelude.{IsTrue, nat_le}
use Rattle.std.specs.List.{list_all}
use Rattle.chare_base.specs.Limits.{array_fits}
use Rattle.chare_base.specs.Sizes.{elements_in}
use Rattle.chare_base.proofs.rules.sizes.elements_fit.Given as goal

abbrev pub invariant-loop-array : goal.invariant-loop-array
invariant-loop-array l = record {
  told : nat_le (elements_in (drop l.array-index l.arrays)) l.left ≡ nat_le (elements_in l.arrays) 4096;
  fit : IsTrue (list_all array_fits (drop l.array-index l.arrays));
}
