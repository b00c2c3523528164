-- What the limits say of an array of a plan.
use Rattle.std.proofs.Common.{◌≡◌, ℕ, ◌≤◌, List, length, Some, arith}
use Rattle.std.specs.Prelude.{slice_get}
use Rattle.chare_base.specs.declared.plan.Array.{Array}
use Rattle.chare_base.specs.declared.plan.Plan.{Plan}
use Rattle.chare_base.specs.declared.cells.Cells.{Cells}
use Rattle.chare_base.specs.Limits.{array_fits}
use Rattle.chare_base.specs.Shape.{Shaped}
use Rattle.chare_base.specs.Sizes.{size_of}
use Rattle.chare_base.proofs.Facts.{Fits, fits_of, each_at, each_fits, elements_few}

fits : (p : Plan) (n : ℕ) (a : Array) → slice_get p.arrays n ≡ Some a → Fits a
fits p n a is = fits_of a (each_at array_fits p.arrays n a (each_fits p) is)

pub cols_some : (p : Plan) (n : ℕ) (a : Array) → slice_get p.arrays n ≡ Some a → 1 ≤ a.cols
cols_some p n a is = (fits p n a is).cols.0

pub size_small : (p : Plan) (n : ℕ) (a : Array) → slice_get p.arrays n ≡ Some a → size_of a ≤ 4096
size_small p n a is = (fits p n a is).size

-- the states of all elements are few
pub states_few : (p : Plan) (all : List Cells) → Shaped p all → length all ≤ 4096
states_few p all shape = omega (arith, shape.count, elements_few p)
