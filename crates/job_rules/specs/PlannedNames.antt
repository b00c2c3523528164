-- What a name of the tree stands for in a plan. A name of nothing has the greatest number.
use Rattle.std.specs.Prelude.{ℕ, List, Option, Some, None}
use Rattle.chare_base.specs.declared.message.EntryId.{EntryId}
use Rattle.chare_base.specs.declared.message.ReductionId.{ReductionId}
use Rattle.chare_base.specs.declared.message.Port.{Port}
use Rattle.chare_base.specs.declared.message.Port.TheVariants as ports
use Rattle.chare_base.specs.declared.range.Range.{Range}
use Rattle.job_tree.specs.declared.token.Span.{Span}
use Rattle.job_rules.specs.declared.names.Meaning.{Meaning}
use Rattle.job_rules.specs.declared.names.Meaning.TheVariants as meanings
use Rattle.job_rules.specs.declared.tables.JobNames.{JobNames}
use Rattle.job_rules.specs.Names.{Known, bytes_at, lookup}
use Rattle.job_rules.specs.Tables.{array_number, meant_in}
use Rattle.job_rules.specs.Numbers.{narrow16, narrow32}

-- ---- states

abbrev pub range_meant : Option Meaning → Option Range
range_meant (Some (meanings.State number declared plain at cells)) = Some (record { at = narrow32 at; count = narrow32 cells })
range_meant _ = None

-- the cells of the state of a name, if it is a state's
unfoldable pub state_range : List ℕ → List Known → Span → Option Range
state_range text table name = range_meant (lookup table (bytes_at text name))

-- those cells, none where there is no state
abbrev pub range_or_none : Option Range → Range
range_or_none (Some range) = range
range_or_none None = record { at = 4294967295; count = 0 }

abbrev pub state_meant : Option Meaning → Option ℕ
state_meant (Some (meanings.State number declared plain at cells)) = Some number
state_meant _ = None

-- ---- entries and reductions

abbrev pub entry_id : ℕ → EntryId
entry_id n = record { 0 = narrow16 n }

abbrev pub reduction_id : ℕ → ReductionId
reduction_id n = record { 0 = narrow16 n }

abbrev pub entry_meant : Option Meaning → EntryId
entry_meant (Some (meanings.Entry port number source values)) = entry_id number
entry_meant _ = record { 0 = 65535 }

abbrev pub reduction_meant : Option Meaning → ReductionId
reduction_meant (Some (meanings.Reduction port number)) = reduction_id number
reduction_meant _ = record { 0 = 65535 }

abbrev pub port_meant : Option Meaning → Port
port_meant (Some (meanings.Entry port number source values)) = ports.Entry (entry_id number)
port_meant (Some (meanings.Reduction port number)) = ports.Total (reduction_id number)
port_meant _ = ports.Entry (record { 0 = 65535 })

-- what a name means behind the name of an array and a dot
unfoldable pub member : List ℕ → JobNames → Span → Span → Option Meaning
member text names array name = meant_in names (array_number text names.arrays array) (bytes_at text name)
