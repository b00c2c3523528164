-- States that have the shape of a plan's elements.
use Rattle.std.specs.Prelude.{◌≡◌, ℕ, ◌<◌, List, length, slice_index_or}
use Rattle.chare_base.specs.declared.cells.Cells.{Cells}
use Rattle.chare_base.specs.declared.plan.Plan.{Plan}
use Rattle.chare_base.specs.Elements.{elements, cells_of}

-- one state for each element, each with the element's number of cells
pub record Shaped (p : Plan) (all : List Cells) : Type 0 where
  pub count : length all ≡ elements p
  pub cells : (e : ℕ) (none : Cells) → e < length all → length (slice_index_or all e none).numbers ≡ cells_of p e
