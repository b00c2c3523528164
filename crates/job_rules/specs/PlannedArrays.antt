-- The plans of arrays and their states.
use Rattle.std.specs.Prelude.{ℕ, suc, ◌+◌, ◌*◌, List, [], ◌∷◌, map, Option, Some, None, is_none}
use Rattle.chare_base.specs.declared.plan.Array.{Array}
use Rattle.chare_base.specs.declared.plan.State.{State}
use Rattle.chare_base.specs.Costs.{capped}
use Rattle.job_tree.specs.declared.token.Num.{Num}
use Rattle.job_tree.specs.declared.tree.ArrayDecl.{ArrayDecl}
use Rattle.job_tree.specs.declared.tree.Coordinates.{Coordinates}
use Rattle.job_tree.specs.declared.tree.StateDecl.{StateDecl}
use Rattle.job_rules.specs.declared.tables.JobNames.{JobNames}
use Rattle.job_rules.specs.Names.{Known, bytes_at}
use Rattle.job_rules.specs.Tables.{cells_written, table_at}
use Rattle.job_rules.specs.PlannedExpressions.{expr_planned}
use Rattle.job_rules.specs.Numbers.{narrow32}
use Rattle.job_rules.specs.PlannedSteps.{step_planned}

-- ---- states

-- a state whose first cell has this number in the element
abbrev pub state_planned : List ℕ → List Known → ℕ → StateDecl → State
state_planned text table at s = record {
  name = bytes_at text s.name;
  plain = is_none s.cells;
  at = narrow32 at;
  cells = narrow32 (cells_written s.cells);
  start = expr_planned text table [] [] s.start;
}

-- states whose cells begin at this place and follow one another
abbrev pub states_planned : List ℕ → List Known → ℕ → List StateDecl → List State
states_planned text table at [] = []
states_planned text table at (s ∷ more) = state_planned text table at s ∷ states_planned text table (capped (at + cells_written s.cells)) more

-- ---- arrays

-- With one size there is one row.
abbrev pub rows_written : Num → Option Num → ℕ
rows_written first None = 1
rows_written first (Some second) = narrow32 first.value

abbrev pub cols_written : Num → Option Num → ℕ
cols_written first None = narrow32 first.value
cols_written first (Some second) = narrow32 second.value

abbrev pub rows_planned : Coordinates → ℕ
rows_planned c = rows_written c.first c.second

abbrev pub cols_planned : Coordinates → ℕ
cols_planned c = cols_written c.first c.second

abbrev pub size_planned : Coordinates → ℕ
size_planned c = narrow32 (rows_planned c * cols_planned c)

-- an array with these names, whose first element has this number
abbrev pub array_with : List ℕ → JobNames → List Known → ℕ → ArrayDecl → Array
array_with text names table first a = record {
  name = bytes_at text a.name;
  flat = is_none a.sizes.second;
  rows = rows_planned a.sizes;
  cols = cols_planned a.sizes;
  first = first;
  states = states_planned text table 0 a.states;
  steps = map (step_planned text names table) a.steps;
}

-- the array of this number
abbrev pub array_planned : List ℕ → JobNames → ℕ → ℕ → ArrayDecl → Array
array_planned text names number first a = array_with text names (table_at names number) first a

-- arrays from this number on, whose elements are numbered from this first one on
abbrev pub arrays_from : List ℕ → JobNames → ℕ → ℕ → List ArrayDecl → List Array
arrays_from text names number first [] = []
arrays_from text names number first (a ∷ more) =
    array_planned text names number first a ∷ arrays_from text names (suc number) (narrow32 (first + size_planned a.sizes)) more
