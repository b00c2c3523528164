-- The agreement as a whole, and what each move makes of it.
use Rattle.std.specs.Prelude.{ℕ, ◌+◌, ◌<◌, ◌≤◌, Bool, not, ◌==◌, ◌||◌, if◌then◌else◌, max, is_some, unwrap_or, List, [], ◌∷◌, ◌++◌, map, replicate, slice_index_or, slice_set, Option, Some, None}
use Rattle.std.specs.List.{list_all}
use Rattle.chare_base.specs.declared.slots.SlotId.{SlotId}
use Rattle.iteration_agree.specs.declared.round.Round.{Round}
use Rattle.iteration_agree.specs.declared.round.Round.TheVariants.{Quiet, Gather, Agreed}
use Rattle.iteration_agree.specs.declared.round.Taking.{Taking}
use Rattle.iteration_agree.specs.declared.round.Taking.TheVariants as takings
use Rattle.iteration_agree.specs.declared.slot.Slot.{Slot}
use Rattle.iteration_agree.specs.Rounds.{number, takes_part}
use Rattle.iteration_agree.specs.Slots.{opening_slot, slot_begun, slot_noted, slot_packed, slot_released, slot_reported, slot_rewound, slot_saw, slot_unnoted}

pub record CutState : Type 0 where
  -- of each replica
  pub nodes : ℕ
  pub round : Round
  -- the standing round's floor, and who takes part once it is agreed
  pub floor : ℕ
  pub taking : Taking
  -- those of replica 0 first
  pub slots : List Slot

abbrev pub opening_slots : ℕ → List Slot
opening_slots nodes = replicate nodes (opening_slot 0) ++ replicate nodes (opening_slot 1)

unfoldable pub opening_cut : ℕ → CutState
opening_cut nodes = record { nodes = nodes; round = Quiet 0; floor = 0; taking = takings.Both; slots = opening_slots nodes }

-- ---- slots by name

abbrev pub HasSlot : CutState → SlotId → Type 0
HasSlot c slot = (slot.replica ≤ 1) × (slot.node < c.nodes)

-- a slot's place in the list
abbrev pub slot_place : ℕ → SlotId → ℕ
slot_place nodes slot = if slot.replica == 0 then slot.node else nodes + slot.node

abbrev pub slot_at : List Slot → ℕ → Slot
slot_at slots i = slice_index_or slots i (opening_slot 0)

abbrev pub slot_of : CutState → SlotId → Slot
slot_of c slot = slot_at c.slots (slot_place c.nodes slot)

-- ---- moves of a slot

-- the slot at a place moves
abbrev pub at_place : (Slot → Slot) → ℕ → CutState → CutState
at_place move i c = record c { slots = slice_set c.slots i (move (slot_at c.slots i)) }

unfoldable pub seen_by : SlotId → CutState → CutState
seen_by slot c = at_place (slot_saw c.round) (slot_place c.nodes slot) c

unfoldable pub begun_by : SlotId → ℕ → CutState → CutState
begun_by slot k c = at_place (slot_begun k) (slot_place c.nodes slot) c

unfoldable pub reported_by : SlotId → CutState → CutState
reported_by slot c = at_place slot_reported (slot_place c.nodes slot) c

unfoldable pub packed_by : SlotId → CutState → CutState
packed_by slot c = at_place slot_packed (slot_place c.nodes slot) c

unfoldable pub rewound_by : SlotId → ℕ → CutState → CutState
rewound_by slot base c = at_place (slot_rewound base) (slot_place c.nodes slot) c

unfoldable pub released_by : SlotId → CutState → CutState
released_by slot c = at_place slot_released (slot_place c.nodes slot) c

-- ---- moves of the conductor

unfoldable pub opened : ℕ → CutState → CutState
opened floor c = record c { round = Gather (number c.round) floor; floor = floor }

unfoldable pub noted : SlotId → CutState → CutState
noted slot c = at_place (slot_noted c.round) (slot_place c.nodes slot) c

-- whether a slot is noted, or takes no part
abbrev pub is_noted : Taking → Slot → Bool
is_noted taking s = not (takes_part taking s.replica) || is_some s.noted

abbrev pub all_noted : Taking → List Slot → Bool
all_noted taking slots = list_all (is_noted taking) slots

-- the greatest of a number and all noted caps, also those of slots that take no part
abbrev pub greatest : ℕ → List Slot → ℕ
greatest k [] = k
greatest k (s ∷ more) = greatest (max k (unwrap_or s.noted 0)) more

-- what is agreed: nothing where a slot that takes part isn't noted
abbrev pub agreement : Taking → CutState → Option ℕ
agreement taking c = if all_noted taking c.slots then Some (greatest c.floor c.slots) else None

abbrev pub agreed_on : Taking → CutState → Option ℕ → CutState
agreed_on taking c None = c
agreed_on taking c (Some k) = record c { round = Agreed (number c.round) k; taking = taking }

unfoldable pub agreed : Taking → CutState → CutState
agreed taking c = agreed_on taking c (agreement taking c)

-- the next round's start: caps that were noted are forgotten
unfoldable pub quieted : CutState → CutState
quieted c = record c { round = Quiet (number c.round + 1); floor = 0; slots = map slot_unnoted c.slots }
