-- The names that a job declares. Counts stop at the greatest number of 64 bits.
use Rattle.std.specs.Prelude.{ℕ, suc, ◌+◌, List, [], ◌∷◌, Option, Some, None, is_none, slice_get}
use Rattle.chare_base.specs.Costs.{capped}
use Rattle.job_tree.specs.declared.token.Num.{Num}
use Rattle.job_tree.specs.declared.token.Span.{Span}
use Rattle.job_tree.specs.declared.tree.ArrayDecl.{ArrayDecl}
use Rattle.job_tree.specs.declared.tree.Job.{Job}
use Rattle.job_tree.specs.declared.tree.MemberDecl.{MemberDecl}
use Rattle.job_tree.specs.declared.tree.MemberDecl.TheVariants.{Entry, Reduce}
use Rattle.job_tree.specs.declared.tree.StateDecl.{StateDecl}
use Rattle.job_rules.specs.declared.names.Meaning.{Meaning}
use Rattle.job_rules.specs.declared.names.Meaning.TheVariants as meanings
use Rattle.job_rules.specs.declared.tables.Counts.{Counts}
use Rattle.job_rules.specs.declared.tables.JobNames.{JobNames}
use Rattle.job_rules.specs.Names.{Known, bytes_at, declare, lookup}

-- ---- arrays

abbrev pub arrays_named : List ℕ → ℕ → List ArrayDecl → List Known → List Known
arrays_named text number [] names = names
arrays_named text number (a ∷ more) names = arrays_named text (suc number) more (declare names (bytes_at text a.name) (meanings.Array number))

abbrev pub array_meant : Option Meaning → Option ℕ
array_meant (Some (meanings.Array number)) = Some number
array_meant _ = None

-- the number of the array of a name, if there is one
abbrev pub array_number : List ℕ → List Known → Span → Option ℕ
array_number text arrays name = array_meant (lookup arrays (bytes_at text name))

-- ---- an array's states

-- A state without a size has one cell.
abbrev pub cells_written : Option Num → ℕ
cells_written None = 1
cells_written (Some n) = n.value

-- the states from this number on, whose cells begin at this place
abbrev pub states_named : List ℕ → ℕ → ℕ → List Known → List StateDecl → List Known
states_named text number at names [] = names
states_named text number at names (s ∷ more) =
    states_named text (suc number) (capped (at + cells_written s.cells))
    (declare names (bytes_at text s.name) (meanings.State number s.at (is_none s.cells) at (cells_written s.cells))) more

-- ---- an array's entries and reductions

-- An entry without a number has messages of one value.
abbrev pub values_written : Option Num → ℕ
values_written None = 1
values_written (Some n) = n.value

abbrev pub no_counts : Counts
no_counts = record { ports = 0; entries = 0; reductions = 0 }

abbrev pub counts_with : Counts → MemberDecl → Counts
counts_with c (Entry e) = record { ports = capped (suc c.ports); entries = capped (suc c.entries); reductions = c.reductions }
counts_with c (Reduce r) = record { ports = capped (suc c.ports); entries = c.entries; reductions = capped (suc c.reductions) }

abbrev pub counts_after : Counts → List MemberDecl → Counts
counts_after c [] = c
counts_after c (m ∷ more) = counts_after (counts_with c m) more

abbrev pub port_named : List ℕ → List Known → Counts → List Known → MemberDecl → List Known
port_named text arrays c names (Entry e) =
    declare names (bytes_at text e.name) (meanings.Entry c.ports c.entries (array_number text arrays e.source) (values_written e.values))
port_named text arrays c names (Reduce r) = declare names (bytes_at text r.name) (meanings.Reduction c.ports c.reductions)

abbrev pub ports_named : List ℕ → List Known → Counts → List Known → List MemberDecl → List Known
ports_named text arrays c names [] = names
ports_named text arrays c names (m ∷ more) = ports_named text arrays (counts_with c m) (port_named text arrays c names m) more

-- ---- all names

-- the names of an array, before which these ports were declared
abbrev pub table_of : List ℕ → List Known → Counts → ArrayDecl → List Known
table_of text arrays c a = ports_named text arrays c (states_named text 0 0 [] a.states) a.members

abbrev pub tables_from : List ℕ → List Known → Counts → List ArrayDecl → List (List Known)
tables_from text arrays c [] = []
tables_from text arrays c (a ∷ more) = table_of text arrays c a ∷ tables_from text arrays (counts_after c a.members) more

unfoldable pub job_names : List ℕ → Job → JobNames
job_names text job =
    let arrays = arrays_named text 0 job.arrays [] in
    record { arrays = arrays; tables = tables_from text arrays no_counts job.arrays }

-- ---- what a name means in an array

abbrev pub table_or_none : Option (List Known) → List Known
table_or_none (Some table) = table
table_or_none None = []

-- the names of the array of this number, none where there is no such array
abbrev pub table_at : JobNames → ℕ → List Known
table_at names number = table_or_none (slice_get names.tables number)

-- what a name means in the array of this number, if it means something there
unfoldable pub member_meaning : JobNames → ℕ → List ℕ → Option Meaning
member_meaning names number name = lookup (table_at names number) name

-- the same, where the array may not be there
abbrev pub meant_in : JobNames → Option ℕ → List ℕ → Option Meaning
meant_in names (Some number) name = lookup (table_at names number) name
meant_in names None name = None
