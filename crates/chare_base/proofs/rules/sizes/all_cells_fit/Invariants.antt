use Rattle.std.proofs.Common.{◌≡◌, drop}
use Rattle.std.specs.Prelude.{IsTrue, nat_le}
use Rattle.std.specs.List.{list_all}
use Rattle.chare_base.specs.Limits.{array_fits}
use Rattle.chare_base.specs.Sizes.{all_cells_in}
use Rattle.chare_base.proofs.rules.sizes.all_cells_fit.Given as goal

abbrev pub invariant-loop-array : goal.invariant-loop-array
invariant-loop-array l = record {
  told : nat_le (all_cells_in (drop l.array-index l.arrays)) l.left ≡ nat_le (all_cells_in l.arrays) 1048576;
  fit : IsTrue (list_all array_fits (drop l.array-index l.arrays));
}
