-- How many elements and cells a plan's parts have.
use Rattle.std.specs.Prelude.{ℕ, ◌+◌, ◌*◌, List, [], ◌∷◌}
use Rattle.chare_base.specs.declared.plan.Array.{Array}
use Rattle.chare_base.specs.declared.plan.State.{State}

-- how many elements an array has
abbrev pub size_of : Array → ℕ
size_of a = a.rows * a.cols

-- how many elements the arrays have
abbrev pub elements_in : List Array → ℕ
elements_in [] = 0
elements_in (a ∷ more) = size_of a + elements_in more

-- how many cells the states have
abbrev pub cells_in : List State → ℕ
cells_in [] = 0
cells_in (s ∷ more) = s.cells + cells_in more

-- how many cells all elements of the arrays have
abbrev pub all_cells_in : List Array → ℕ
all_cells_in [] = 0
all_cells_in (a ∷ more) = size_of a * cells_in a.states + all_cells_in more
