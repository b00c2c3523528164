-- Which elements exchange messages at an entry.
use Rattle.std.specs.Prelude.{ℕ, ◌<◌, zero, suc, ◌+◌, ◌*◌, ◌/◌, ◌%◌, ℤ, pos, negsuc, ◌+ℤ◌, ◌-ℤ◌, nat_lt, if◌then◌else◌, List, replicate, slice_get, slice_set, unsigned_abs, Option, Some, None}
use Rattle.std.specs.Int.{int_rem_euclid}
use Rattle.std.specs.Option.{option_map_or}
use Rattle.chare_base.specs.declared.message.Payload.{Payload}
use Rattle.chare_base.specs.declared.message.Source.{Source}
use Rattle.chare_base.specs.declared.message.Source.TheVariants as sources
use Rattle.chare_base.specs.declared.plan.Array.{Array}
use Rattle.chare_base.specs.declared.plan.Edge.{Edge}
use Rattle.chare_base.specs.declared.plan.Edge.TheVariants.{Wrap, Else}
use Rattle.chare_base.specs.declared.plan.ElementId.{ElementId}
use Rattle.chare_base.specs.declared.plan.Entry.{Entry}
use Rattle.chare_base.specs.declared.plan.Plan.{Plan}
use Rattle.chare_base.specs.declared.plan.Reduction.{Reduction}
use Rattle.chare_base.specs.Elements.{place_of}

-- the entry and the reduction of a number
abbrev pub entry_of : Plan → ℕ → Option Entry
entry_of p x = slice_get p.entries x

abbrev pub reduction_of : Plan → ℕ → Option Reduction
reduction_of p r = slice_get p.reductions r

-- what an array of a number has, nothing where there is no such array
abbrev pub first_of : List Array → ℕ → ℕ
first_of arrays number = option_map_or (λ a. a.first) (slice_get arrays number) 0

abbrev pub rows_of : List Array → ℕ → ℕ
rows_of arrays number = option_map_or (λ a. a.rows) (slice_get arrays number) 0

abbrev pub cols_of : List Array → ℕ → ℕ
cols_of arrays number = option_map_or (λ a. a.cols) (slice_get arrays number) 0

-- a coordinate, where it lies within a size
abbrev pub inside : ℕ → ℤ → Option ℕ
inside size (pos i) = if nat_lt i size then Some i else None
inside size (negsuc i) = None

-- A coordinate of a neighbour: with wrap the ends meet, else there may be none.
abbrev pub coordinate : Edge → ℕ → ℤ → Option ℕ
coordinate Wrap size place = Some (unsigned_abs (int_rem_euclid place (pos size)))
coordinate (Else value) size place = inside size place

-- the index at a row and a column, where both are there
abbrev pub index_at : ℕ → Option ℕ → Option ℕ → Option ℕ
index_at cols (Some row) (Some col) = Some (row * cols + col)
index_at cols (Some row) None = None
index_at cols None col = None

-- the index of the element at a row and a column, in an array of rows by cols elements
abbrev pub neighbour : Edge → ℕ → ℕ → ℤ → ℤ → Option ℕ
neighbour edge rows cols row col = index_at cols (coordinate edge rows row) (coordinate edge cols col)

-- The index of the element that sends to the one at an index. Both arrays have one shape.
abbrev pub source_index : List Array → Entry → ℕ → Option ℕ
source_index arrays entry index =
    neighbour entry.edge (rows_of arrays entry.source) (cols_of arrays entry.source)
    (pos (index / cols_of arrays entry.source) +ℤ entry.down) (pos (index % cols_of arrays entry.source) +ℤ entry.across)

-- the index of the element that receives from the one at an index
abbrev pub target_index : List Array → Entry → ℕ → Option ℕ
target_index arrays entry index =
    neighbour entry.edge (rows_of arrays entry.owner) (cols_of arrays entry.owner)
    (pos (index / cols_of arrays entry.owner) -ℤ entry.down) (pos (index % cols_of arrays entry.owner) -ℤ entry.across)

-- eight numbers, the first n of which are the value
abbrev pub filled : ℕ → ℤ → List ℤ
filled zero value = replicate 8 (pos 0)
filled (suc n) value = slice_set (filled n value) n value

abbrev pub nothing : Payload
nothing = record { count = 0; values = replicate 8 (pos 0) }

abbrev pub edge_payload : Edge → ℕ → Payload
edge_payload Wrap values = nothing
edge_payload (Else value) values = record { count = values; values = filled values value }

abbrev pub element_at : ℕ → ℕ → ElementId
element_at first index = record { 0 = first + index }

abbrev pub source_in : List Array → ℕ → Entry → Source
source_in arrays index entry =
    option_map_or (λ i. sources.Element (element_at (first_of arrays entry.source) i)) (source_index arrays entry index) (sources.Edge (edge_payload entry.edge entry.values))

abbrev pub target_in : List Array → ℕ → Entry → Option ElementId
target_in arrays index entry = option_map_or (λ i. Some (element_at (first_of arrays entry.owner) i)) (target_index arrays entry index) None

-- where an element's message at an entry comes from
unfoldable pub source_of : Plan → ℕ → ℕ → Source
source_of p x e = option_map_or (source_in p.arrays (place_of p e).index) (entry_of p x) (sources.Edge nothing)

-- the element that gets what an element sends at an entry, if there is one
unfoldable pub target_of : Plan → ℕ → ℕ → Option ElementId
target_of p x e = option_map_or (target_in p.arrays (place_of p e).index) (entry_of p x) None

-- an element as it is named
abbrev pub id_of : ℕ → ElementId
id_of e = record { 0 = e }

-- a sender, if there is one, is one of count elements
abbrev pub SentWithin : ℕ → Source → Type 0
SentWithin count (sources.Element e) = e.0 < count
SentWithin count (sources.Edge payload) = Unit {0}
