-- Each answer names a state of an array, and perhaps a cell of one element.
use Rattle.std.specs.Prelude.{ℕ, Bool, true, false, not, nat_lt, List, slice_get, Option, Some, None}
use Rattle.job_tree.specs.declared.token.Num.{Num}
use Rattle.job_tree.specs.declared.token.Span.{Span}
use Rattle.job_tree.specs.declared.tree.AnswerDecl.{AnswerDecl}
use Rattle.job_tree.specs.declared.tree.AnswerDecl.TheVariants.{Over, At}
use Rattle.job_tree.specs.declared.tree.ArrayDecl.{ArrayDecl}
use Rattle.job_tree.specs.declared.tree.Coordinates.{Coordinates}
use Rattle.job_tree.specs.declared.tree.Job.{Job}
use Rattle.job_rules.specs.declared.fault.CheckFault.TheVariants.{Unknown, Kind, Bound}
use Rattle.job_rules.specs.declared.names.Meaning.{Meaning}
use Rattle.job_rules.specs.declared.names.Meaning.TheVariants as meanings
use Rattle.job_rules.specs.declared.tables.JobNames.{JobNames}
use Rattle.job_rules.specs.Faults.{Found, fault_if, first_of, name_fault, sooner}
use Rattle.job_rules.specs.Names.{bytes_at}
use Rattle.job_rules.specs.Tables.{array_number, member_meaning}

-- a number counts from 0 up to a size
abbrev pub below : ℕ → Num → Found
below size n = fault_if (not (nat_lt n.value size)) (Bound n.at)

-- ---- a state

-- a name that is to be a state's
abbrev pub state_fault : Span → Option Meaning → Found
state_fault name None = Some (Unknown name.at)
state_fault name (Some (meanings.State number declared plain at cells)) = None
state_fault name (Some _) = Some (Kind name.at)

-- ---- a cell of one element

-- as many coordinates as the array has sizes, each below its size
abbrev pub coordinates_fault : Span → Num → Num → Option Num → Option Num → Found
coordinates_fault array size first None None = below size.value first
coordinates_fault array rows first (Some columns) (Some second) = sooner (below rows.value first) (below columns.value second)
coordinates_fault array size first _ _ = Some (Kind array.at)

abbrev pub element_fault : Span → Option ArrayDecl → Coordinates → Found
element_fault name (Some array) element = coordinates_fault name array.sizes.first element.first array.sizes.second element.second
element_fault name None element = None

-- an index exactly where the state isn't plain, below its number of cells
abbrev pub index_fault : Span → Bool → ℕ → Option Num → Found
index_fault state true cells None = None
index_fault state true cells (Some index) = Some (Kind state.at)
index_fault state false cells None = Some (Kind state.at)
index_fault state false cells (Some index) = below cells index

abbrev pub cell_fault : Span → Option Meaning → Option Num → Found
cell_fault state (Some (meanings.State number declared plain at cells)) index = index_fault state plain cells index
cell_fault state _ index = None

-- ---- answers

-- over all elements of the array of a number, if the name is an array's
abbrev pub over_fault : List ℕ → JobNames → Span → Span → Option ℕ → Found
over_fault text names array state None = Some (Unknown array.at)
over_fault text names array state (Some number) = state_fault state (member_meaning names number (bytes_at text state))

module _ (text : List ℕ) (names : JobNames) (arrays : List ArrayDecl) where
  -- of one element
  abbrev pub at_fault : Span → Coordinates → Span → Option Num → Option ℕ → Found
  at_fault array element state index None = Some (Unknown array.at)
  at_fault array element state index (Some number) =
      let meant = member_meaning names number (bytes_at text state) in
      sooner (sooner (state_fault state meant) (element_fault array (slice_get arrays number) element)) (cell_fault state meant index)

  abbrev pub answer_fault : AnswerDecl → Found
  answer_fault (Over at how array state) =
      sooner (sooner (name_fault array) (name_fault state)) (over_fault text names array state (array_number text names.arrays array))
  answer_fault (At at array element state index) =
      sooner (sooner (name_fault array) (name_fault state)) (at_fault array element state index (array_number text names.arrays array))

-- of what was found and what is wrong with the answers of a job
unfoldable pub answers_found : List ℕ → JobNames → Job → Found → Found
answers_found text names job found = first_of (answer_fault text names job.arrays) found job.answers
