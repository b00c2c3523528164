-- What declarations themselves break: names declared twice or too long, and entries whose source isn't there or has
-- another shape.
use Rattle.std.specs.Prelude.{ℕ, suc, Bool, true, false, not, ◌||◌, ◌==◌, List, [], ◌∷◌, Option, Some, None, is_none, slice_get}
use Rattle.job_tree.specs.declared.token.Num.{Num}
use Rattle.job_tree.specs.declared.token.Span.{Span}
use Rattle.job_tree.specs.declared.tree.ArrayDecl.{ArrayDecl}
use Rattle.job_tree.specs.declared.tree.Coordinates.{Coordinates}
use Rattle.job_tree.specs.declared.tree.EntryDecl.{EntryDecl}
use Rattle.job_tree.specs.declared.tree.Job.{Job}
use Rattle.job_tree.specs.declared.tree.MemberDecl.{MemberDecl}
use Rattle.job_tree.specs.declared.tree.MemberDecl.TheVariants as members
use Rattle.job_tree.specs.declared.tree.SignedNum.{SignedNum}
use Rattle.job_tree.specs.declared.tree.StateDecl.{StateDecl}
use Rattle.job_rules.specs.declared.fault.CheckFault.TheVariants.{Shape, Twice, Unknown}
use Rattle.job_rules.specs.declared.names.Meaning.{Meaning}
use Rattle.job_rules.specs.declared.names.Meaning.TheVariants.{Array, Entry, Reduction, State}
use Rattle.job_rules.specs.declared.tables.Counts.{Counts}
use Rattle.job_rules.specs.declared.tables.JobNames.{JobNames}
use Rattle.job_rules.specs.Faults.{Found, fault_if, name_fault, sooner}
use Rattle.job_rules.specs.Names.{bytes_at, lookup}
use Rattle.job_rules.specs.Tables.{array_number, counts_after, counts_with, member_meaning, no_counts}

-- ---- names that are declared before

-- the first declaration of a name is the array of this number
abbrev pub is_array : ℕ → Option Meaning → Bool
is_array number (Some (Array n)) = n == number
is_array number _ = false

-- the first declaration of a name is the state of this number
abbrev pub is_state : ℕ → Option Meaning → Bool
is_state number (Some (State n declared plain at cells)) = n == number
is_state number _ = false

-- the first declaration of a name is the port of this number
abbrev pub is_port : ℕ → Option Meaning → Bool
is_port port (Some (Entry p number source values)) = p == port
is_port port (Some (Reduction p number)) = p == port
is_port port _ = false

-- a name that is too long, or whose first declaration is another one
abbrev pub declared_fault : Span → Bool → Found
declared_fault name first = sooner (name_fault name) (fault_if (not first) (Twice name.at))

abbrev pub array_declared : List ℕ → JobNames → ℕ → ArrayDecl → Found
array_declared text names number a = declared_fault a.name (is_array number (lookup names.arrays (bytes_at text a.name)))

abbrev pub state_declared : List ℕ → JobNames → ℕ → ℕ → StateDecl → Found
state_declared text names array number s = declared_fault s.name (is_state number (member_meaning names array (bytes_at text s.name)))

abbrev pub port_declared : List ℕ → JobNames → ℕ → ℕ → Span → Found
port_declared text names array port name = declared_fault name (is_port port (member_meaning names array (bytes_at text name)))

-- ---- the sources of entries

-- one of two has a second coordinate, or their values differ
abbrev pub second_differs : Option Num → Option Num → Bool
second_differs None None = false
second_differs (Some a) (Some b) = not (a.value == b.value)
second_differs _ _ = true

abbrev pub sizes_differ : Coordinates → Coordinates → Bool
sizes_differ a b = not (a.first.value == b.first.value) || second_differs a.second b.second

-- the array of this number, if there is one, has other sizes
abbrev pub array_differs : Option ArrayDecl → Coordinates → Bool
array_differs None sizes = false
array_differs (Some a) sizes = sizes_differ a.sizes sizes

abbrev pub source_differs : List ArrayDecl → Option ℕ → Coordinates → Bool
source_differs arrays None sizes = false
source_differs arrays (Some n) sizes = array_differs (slice_get arrays n) sizes

-- an offset and an array's sizes have another number of coordinates
abbrev pub dimensions_differ : Option SignedNum → Option Num → Bool
dimensions_differ None None = false
dimensions_differ (Some o) (Some n) = false
dimensions_differ _ _ = true

-- an entry of an array of these sizes: the array that it names behind `from`, and its offset
abbrev pub source_fault : List ℕ → JobNames → List ArrayDecl → Coordinates → EntryDecl → Found
source_fault text names arrays sizes e =
    let source = array_number text names.arrays e.source in
    sooner (sooner (name_fault e.source) (fault_if (is_none source) (Unknown e.source.at)))
    (fault_if (source_differs arrays source sizes || dimensions_differ e.offset.second sizes.second) (Shape e.name.at))

-- ---- all declarations

-- a member of an array of these sizes, the port of this number
abbrev pub member_fault : List ℕ → JobNames → List ArrayDecl → ℕ → Coordinates → ℕ → MemberDecl → Found
member_fault text names arrays array sizes port (members.Entry e) =
    sooner (port_declared text names array port e.name) (source_fault text names arrays sizes e)
member_fault text names arrays array sizes port (members.Reduce r) = port_declared text names array port r.name

-- the states from this number on
abbrev pub states_found : List ℕ → JobNames → ℕ → ℕ → Found → List StateDecl → Found
states_found text names array number found [] = found
states_found text names array number found (s ∷ more) =
    states_found text names array (suc number) (sooner found (state_declared text names array number s)) more

-- the members before which these ports were declared
abbrev pub members_found : List ℕ → JobNames → List ArrayDecl → ℕ → Coordinates → Counts → Found → List MemberDecl → Found
members_found text names arrays array sizes counts found [] = found
members_found text names arrays array sizes counts found (m ∷ more) =
    members_found text names arrays array sizes (counts_with counts m) (sooner found (member_fault text names arrays array sizes counts.ports m)) more

abbrev pub array_found : List ℕ → JobNames → List ArrayDecl → ℕ → Counts → Found → ArrayDecl → Found
array_found text names arrays number counts found a =
    members_found text names arrays number a.sizes counts
    (states_found text names number 0 (sooner found (array_declared text names number a)) a.states) a.members

-- the arrays from this number on
abbrev pub arrays_found : List ℕ → JobNames → List ArrayDecl → ℕ → Counts → Found → List ArrayDecl → Found
arrays_found text names arrays number counts found [] = found
arrays_found text names arrays number counts found (a ∷ more) =
    arrays_found text names arrays (suc number) (counts_after counts a.members) (array_found text names arrays number counts found a) more

-- of what was found and what the declarations of a job break, the fault that is named
unfoldable pub declarations_found : List ℕ → JobNames → Job → Found → Found
declarations_found text names job found =
    arrays_found text names job.arrays 0 no_counts (sooner found (name_fault job.name)) job.arrays
