-- The limits of a plan.
use Rattle.std.specs.Prelude.{ℕ, suc, ◌+◌, ◌==◌, ℤ, pos, negsuc, Bool, not, ◌&&◌, ◌||◌, nat_le, nat_lt, if◌then◌else◌, List, [], ◌∷◌, length}
use Rattle.std.specs.List.{list_all}
use Rattle.chare_base.specs.declared.plan.Array.{Array}
use Rattle.chare_base.specs.declared.plan.Answer.{Answer}
use Rattle.chare_base.specs.declared.plan.Entry.{Entry}
use Rattle.chare_base.specs.declared.plan.Reduction.{Reduction}
use Rattle.chare_base.specs.declared.plan.State.{State}
use Rattle.chare_base.specs.declared.plan.Step.{Step}
use Rattle.chare_base.specs.Sizes.{size_of, elements_in, cells_in, all_cells_in}

-- from low to high
abbrev pub between : ℕ → ℕ → ℕ → Bool
between low high n = nat_le low n && nat_le n high

abbrev pub name_fits : List ℕ → Bool
name_fits name = between 1 32 (length name)

-- A state that is named without an index has one cell.
abbrev pub state_fits : State → Bool
state_fits s = name_fits s.name && between 1 4096 s.cells && (not s.plain || s.cells == 1)

abbrev pub step_fits : Step → Bool
step_fits step = between 1 8 (length step.parts)

-- An array of one dimension has one row.
abbrev pub shape_fits : Array → Bool
shape_fits a = between 1 4096 a.rows && between 1 4096 a.cols && (not a.flat || a.rows == 1) && nat_le (size_of a) 4096

abbrev pub states_fit : List State → Bool
states_fit states = between 1 16 (length states) && list_all state_fits states && nat_le (cells_in states) 4096

abbrev pub steps_fit : List Step → Bool
steps_fit steps = between 1 32 (length steps) && list_all step_fits steps

abbrev pub array_fits : Array → Bool
array_fits a = name_fits a.name && shape_fits a && states_fit a.states && steps_fit a.steps

abbrev pub arrays_fit : List Array → Bool
arrays_fit arrays =
    between 1 8 (length arrays) && list_all array_fits arrays && nat_le (elements_in arrays) 4096 && nat_le (all_cells_in arrays) 1048576

-- an offset is at most 8 in either direction
abbrev pub offset_fits : ℤ → Bool
offset_fits (pos n) = nat_le n 8
offset_fits (negsuc n) = nat_lt n 8

abbrev pub entry_fits : Entry → Bool
entry_fits e = name_fits e.name && offset_fits e.down && offset_fits e.across && between 1 8 e.values

abbrev pub reduction_fits : Reduction → Bool
reduction_fits r = name_fits r.name

-- how many entries an array has
abbrev pub entries_of : ℕ → List Entry → ℕ
entries_of number [] = 0
entries_of number (e ∷ more) = if e.owner == number then suc (entries_of number more) else entries_of number more

-- how many reductions an array has
abbrev pub reductions_of : ℕ → List Reduction → ℕ
reductions_of number [] = 0
reductions_of number (r ∷ more) = if r.owner == number then suc (reductions_of number more) else reductions_of number more

-- no array has more than 16 entries and reductions
abbrev pub ports_fit : List Entry → List Reduction → ℕ → Bool
ports_fit entries reductions number = nat_le (entries_of number entries + reductions_of number reductions) 16

abbrev pub members_fit : List Entry → List Reduction → Bool
members_fit entries reductions =
    list_all entry_fits entries && list_all reduction_fits reductions
    && list_all (λ e. ports_fit entries reductions e.owner) entries && list_all (λ r. ports_fit entries reductions r.owner) reductions

unfoldable pub limits_hold : List ℕ → ℕ → List Array → List Entry → List Reduction → List Answer → Bool
limits_hold name iterations arrays entries reductions answers =
    name_fits name && between 1 1000000 iterations && arrays_fit arrays && between 1 16 (length answers) && members_fit entries reductions
