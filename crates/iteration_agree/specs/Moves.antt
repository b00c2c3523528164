-- Moves on the agreement one after another, each where it is allowed.
use Rattle.std.specs.Prelude.{ℕ, ◌<◌, ◌≤◌, List, [], ◌∷◌, Option, Some, None}
use Rattle.chare_base.specs.declared.slots.SlotId.{SlotId}
use Rattle.iteration_agree.specs.declared.round.Taking.{Taking}
use Rattle.iteration_agree.specs.Rounds.{IsGather, IsQuiet, NamesReplica, last_round, most_iterations, number}
use Rattle.iteration_agree.specs.Cuts.{CutState, HasSlot, agreed, begun_by, noted, opened, packed_by, quieted, released_by, reported_by, rewound_by, seen_by, slot_of}
use Rattle.iteration_agree.specs.Under.{MayBegin, MayPack, MayRelease, MayReport, MayRewind}

-- those of a slot, then those of the conductor
pub data Move : Type 0 where
  Sees : (slot : SlotId) → Move
  Begins : (slot : SlotId) (k : ℕ) → Move
  Reports : (slot : SlotId) → Move
  Packs : (slot : SlotId) → Move
  Rewinds : (slot : SlotId) (base : ℕ) → Move
  Releases : (slot : SlotId) → Move
  Opens : (floor : ℕ) → Move
  Notes : (slot : SlotId) → Move
  Agrees : (taking : Taking) → Move
  Quiets : Move

abbrev pub moved : CutState → Move → CutState
moved c (Sees slot) = seen_by slot c
moved c (Begins slot k) = begun_by slot k c
moved c (Reports slot) = reported_by slot c
moved c (Packs slot) = packed_by slot c
moved c (Rewinds slot base) = rewound_by slot base c
moved c (Releases slot) = released_by slot c
moved c (Opens floor) = opened floor c
moved c (Notes slot) = noted slot c
moved c (Agrees taking) = agreed taking c
moved c Quiets = quieted c

-- the conditions of the calls
abbrev pub Allowed : CutState → Move → Type 0
Allowed c (Sees slot) = HasSlot c slot
Allowed c (Begins slot k) = HasSlot c slot × MayBegin k (slot_of c slot)
Allowed c (Reports slot) = HasSlot c slot × MayReport (slot_of c slot)
Allowed c (Packs slot) = HasSlot c slot × MayPack (slot_of c slot)
Allowed c (Rewinds slot base) = HasSlot c slot × MayRewind base (slot_of c slot)
Allowed c (Releases slot) = HasSlot c slot × MayRelease (slot_of c slot)
Allowed c (Opens floor) = IsQuiet c.round × (floor ≤ most_iterations)
Allowed c (Notes slot) = HasSlot c slot
Allowed c (Agrees taking) = IsGather c.round × NamesReplica taking
Allowed c Quiets = (IsQuiet c.round → ⊥) × (number c.round < last_round)

-- whose standing a move may change
abbrev pub mover : Move → Option SlotId
mover (Sees slot) = Some slot
mover (Begins slot k) = Some slot
mover (Reports slot) = Some slot
mover (Packs slot) = Some slot
mover (Rewinds slot base) = Some slot
mover (Releases slot) = Some slot
mover (Opens floor) = None
mover (Notes slot) = None
mover (Agrees taking) = None
mover Quiets = None

abbrev pub after_moves : CutState → List Move → CutState
after_moves c [] = c
after_moves c (move ∷ more) = after_moves (moved c move) more

abbrev pub AllAllowed : CutState → List Move → Type 0
AllAllowed c [] = Unit {0}
AllAllowed c (move ∷ more) = Allowed c move × AllAllowed (moved c move) more
