-- How a report names elements and cells.
use Rattle.std.specs.Prelude.{ℕ, ◌-◌, ◌/◌, ◌%◌, Bool, if◌then◌else◌, List, [], ◌++◌, codes, Option, Some, None}
use Rattle.std.specs.Fmt.{decimal}
use Rattle.chare_base.specs.declared.plan.Array.{Array}
use Rattle.chare_base.specs.declared.plan.Plan.{Plan}
use Rattle.chare_base.specs.declared.plan.State.{State}
use Rattle.chare_base.specs.Elements.{array_of, place_of}

-- where an element stands in its array: its index in one dimension, its row and its column in two
abbrev pub coordinates : Bool → ℕ → ℕ → List ℕ
coordinates flat index cols = if flat then decimal index else decimal (index / cols) ++ (codes "," ++ decimal (index % cols))

abbrev pub name_in : ℕ → Option Array → List ℕ
name_in index None = []
name_in index (Some a) = a.name ++ (codes "[" ++ (coordinates a.flat index a.cols ++ codes "]"))

-- ARRAY[INDEX] or ARRAY[ROW,COLUMN]
unfoldable pub element_name : Plan → ℕ → List ℕ
element_name p e = name_in (place_of p e).index (array_of p e)

-- STATE, or STATE[PLACE] where the state is named with an index
unfoldable pub cell_name : State → ℕ → List ℕ
cell_name s cell = if s.plain then s.name else s.name ++ (codes "[" ++ (decimal (cell - s.at) ++ codes "]"))
