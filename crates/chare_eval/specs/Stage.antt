-- One iteration of all elements, step by step.
use Rattle.std.specs.Prelude.{ℕ, zero, suc, ℤ, pos, List, [], ◌∷◌, ◌++◌, ◌==◌, ◌&&◌, if◌then◌else◌, length, replicate, slice_get, slice_index_or, slice_set, bit_xor, Option, Some, None, unwrap_or}
use Rattle.std.specs.Int.{w64, cast_signed, cast_unsigned}
use Rattle.std.specs.Option.{option_map_or}
use Rattle.chare_base.specs.declared.cells.Cells.{Cells}
use Rattle.chare_base.specs.declared.message.Need.{Need}
use Rattle.chare_base.specs.declared.message.Need.TheVariants as needs
use Rattle.chare_base.specs.declared.message.Payload.{Payload}
use Rattle.chare_base.specs.declared.message.Port.{Port}
use Rattle.chare_base.specs.declared.message.Port.TheVariants as ports
use Rattle.chare_base.specs.declared.message.Source.{Source}
use Rattle.chare_base.specs.declared.message.Source.TheVariants as sources
use Rattle.chare_base.specs.declared.plan.Array.{Array}
use Rattle.chare_base.specs.declared.plan.How.{How}
use Rattle.chare_base.specs.declared.plan.How.TheVariants.{Sum}
use Rattle.chare_base.specs.declared.plan.Part.{Part}
use Rattle.chare_base.specs.declared.plan.Plan.{Plan}
use Rattle.chare_base.specs.declared.plan.Reduction.{Reduction}
use Rattle.chare_base.specs.Elements.{elements, parts_at, steps_in_round}
use Rattle.chare_base.specs.Entries.{nothing, reduction_of, source_of}
use Rattle.chare_base.specs.Flip.{Flip}
use Rattle.chare_base.specs.Sizes.{size_of}
use Rattle.chare_base.specs.Total.{joined_to}
use Rattle.chare_eval.specs.declared.effects.Outgoing.{Outgoing}
use Rattle.chare_eval.specs.declared.effects.Outgoing.TheVariants.{Parcel, Contribution}
use Rattle.chare_eval.specs.Value.{number_at}
use Rattle.chare_eval.specs.Block.{Effect, block_runs, quiet}
use Rattle.chare_eval.specs.Opening.{no_slip}

-- ---- mail

-- The message that was sent to an element at an entry: the first, where more than one was.
abbrev pub parcel_held : List Outgoing → ℕ → ℕ → Option Payload
parcel_held [] e x = None
parcel_held (Parcel entry to payload ∷ more) e x = if to.0 == e && entry.0 == x then Some payload else parcel_held more e x
parcel_held (Contribution reduction value ∷ more) e x = parcel_held more e x

-- what was contributed to a reduction, in order
abbrev pub contributions : List Outgoing → ℕ → List ℤ
contributions [] r = []
contributions (Parcel entry to payload ∷ more) r = contributions more r
contributions (Contribution reduction value ∷ more) r = if reduction.0 == r then value ∷ contributions more r else contributions more r

-- how many elements contribute to a reduction: those of its array
abbrev pub members_in : List Array → Option Reduction → ℕ
members_in arrays None = 0
members_in arrays (Some r) = option_map_or size_of (slice_get arrays r.owner) 0

abbrev pub members : Plan → ℕ → ℕ
members p r = members_in p.arrays (reduction_of p r)

abbrev pub how_of : Plan → ℕ → How
how_of p r = option_map_or (λ (x : Reduction). x.how) (reduction_of p r) Sum

abbrev pub one_value : ℤ → Payload
one_value v = record { count = 1; values = slice_set (replicate 8 (pos 0)) 0 v }

abbrev pub total_payload : Option ℤ → Option Payload
total_payload None = None
total_payload (Some v) = Some (one_value v)

-- A reduction's total is there once all its members have contributed.
abbrev pub total_of : Plan → ℕ → List ℤ → Option Payload
total_of p r values = if length values == members p r then total_payload (joined_to (how_of p r) None values) else None

-- what was sent to an element at a port
abbrev pub held : Plan → List Outgoing → ℕ → Port → Option Payload
held p mail e (ports.Entry entry) = parcel_held mail e entry.0
held p mail e (ports.Total reduction) = total_of p reduction.0 (contributions mail reduction.0)

-- what an element finds at each port
abbrev pub Inbox : Type 0
Inbox = Port → Option Payload

abbrev pub found : Source → Option Payload → Option Payload
found (sources.Element sender) message = message
found (sources.Edge payload) message = Some payload

-- what an element finds at a port, where this was sent to it
abbrev pub found_at : Plan → ℕ → Port → Option Payload → Option Payload
found_at p e (ports.Entry entry) message = found (source_of p entry.0 e) message
found_at p e (ports.Total reduction) message = message

-- Beyond an edge nobody sends: there the edge's payload is found.
abbrev pub inbox : Plan → List Outgoing → ℕ → Inbox
inbox p mail e port = found_at p e port (held p mail e port)

-- what a part gets of what it needs
abbrev pub given : Need → Inbox → Payload
given needs.Nothing box = nothing
given (needs.Port port) box = unwrap_or (box port) nothing

-- ---- one step of one element

module _ (p : Plan) (e step iteration : ℕ) (box : Inbox) where
  abbrev pub part_runs : Part → Effect → Effect
  part_runs part f = block_runs p e step iteration part.block (given part.need box) f

  -- parts in text order, each with what it needs
  abbrev pub parts_run : List Part → Effect → Effect
  parts_run [] f = f
  parts_run (part ∷ more) f = parts_run more (part_runs part f)

-- what one step does to an element that finds this at its ports
abbrev pub step_of : Plan → ℕ → ℕ → ℕ → Inbox → Cells → Effect
step_of p s k e box cells = parts_run p e s k box (parts_at p e s) (quiet cells)

-- ---- all elements

-- all elements' states, and what they sent in this iteration so far
pub record Board : Type 0 where
  pub states : List Cells
  pub mail : List Outgoing

-- an element's state, an empty one where there is no such element
abbrev pub state_at : List Cells → ℕ → Cells
state_at all e = slice_index_or all e (record { numbers = []; slip = no_slip })

-- a cell's 64 bits, by exclusive or with a mask
abbrev pub flipped : ℕ → ℤ → ℤ
flipped mask value = cast_signed w64 (bit_xor (cast_unsigned w64 value) mask)

abbrev pub with_flip : Flip → Cells → Cells
with_flip f cells = record { numbers = slice_set cells.numbers f.cell (flipped f.mask (number_at cells.numbers f.cell)); slip = cells.slip }

-- The flips of an iteration strike as it begins.
abbrev pub struck : List Flip → ℕ → List Cells → List Cells
struck [] k all = all
struck (f ∷ more) k all = struck more k (if f.at == k then slice_set all f.element (with_flip f (state_at all f.element)) else all)

-- what a step of an iteration does to an element of a board
abbrev pub effect : Plan → ℕ → ℕ → ℕ → Board → Effect
effect p s k e b = step_of p s k e (inbox p b.mail e) (state_at b.states e)

abbrev pub with_effect : ℕ → Board → Effect → Board
with_effect e b f = record { states = slice_set b.states e f.cells; mail = b.mail ++ f.sent }

-- the first e elements have run a step of an iteration, in element order
unfoldable pub ran : Plan → ℕ → ℕ → ℕ → Board → Board
ran p s k zero b = b
ran p s k (suc e) b = with_effect e (ran p s k e b) (effect p s k e (ran p s k e b))

-- the board before a step, from the states before the iteration
unfoldable pub stage : Plan → List Flip → ℕ → List Cells → ℕ → Board
stage p lines k all zero = record { states = struck lines k all; mail = [] }
stage p lines k all (suc s) = ran p s k (elements p) (stage p lines k all s)

-- the states after the iteration
unfoldable pub round : Plan → List Flip → ℕ → List Cells → List Cells
round p lines k all = (stage p lines k all (steps_in_round p)).states
