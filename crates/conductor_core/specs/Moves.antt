-- What the conductor wants of the agreement.
use Rattle.std.specs.Prelude.{ℕ, zero, suc, ◌+◌, Bool, false, ◌==◌, nat_le, nat_lt, is_some, if◌then◌else◌, List, slice_index_or, Option, Some, None}
use Rattle.std.specs.List.{list_all, list_any}
use Rattle.chare_base.specs.declared.slots.SlotId.{SlotId}
use Rattle.pup_state.specs.declared.compare.Verdict.{Verdict}
use Rattle.iteration_agree.specs.declared.round.Sight.{Sight}
use Rattle.iteration_agree.specs.declared.round.Taking.TheVariants as takings
use Rattle.iteration_agree.specs.Cuts.{slot_place}
use Rattle.conductor_core.specs.declared.wants.CutMove.{CutMove}
use Rattle.conductor_core.specs.declared.wants.CutMove.TheVariants as moves

-- ---- slots

abbrev pub slot_named : ℕ → ℕ → SlotId
slot_named replica node = record { replica = replica; node = node }

-- the slot behind one, round: those of replica 0 by node, then those of replica 1
abbrev pub slot_after : ℕ → SlotId → SlotId
slot_after nodes slot =
    if nat_lt (slot.node + 1) nodes then slot_named slot.replica (slot.node + 1) else slot_named (if slot.replica == 0 then 1 else 0) 0

-- ---- a quiet round

-- a slot that is seen at an iteration, or beyond it
abbrev pub reaches : ℕ → Option Sight → Bool
reaches k None = false
reaches k (Some sight) = nat_le k sight.top

-- a round is opened once a slot is seen at its floor; else another slot is looked at
abbrev pub quiet_move : ℕ → List (Option Sight) → SlotId → CutMove
quiet_move floor sights next = if list_any (reaches floor) sights then moves.OpenRound floor else moves.Look next

-- ---- a round that gathers caps

abbrev pub is_noted : List Bool → ℕ → SlotId → Bool
is_noted noted nodes slot = slice_index_or noted (slot_place nodes slot) false

-- the first of n nodes of a replica, from node j on, that isn't noted
abbrev pub unnoted_from : List Bool → ℕ → ℕ → ℕ → ℕ → Option SlotId
unnoted_from noted nodes replica j zero = None
unnoted_from noted nodes replica j (suc n) =
    if is_noted noted nodes (slot_named replica j) then unnoted_from noted nodes replica (suc j) n else Some (slot_named replica j)

abbrev pub slot_or : Option SlotId → Option SlotId → Option SlotId
slot_or None other = other
slot_or (Some slot) other = Some slot

-- the first slot that isn't noted
abbrev pub first_unnoted : List Bool → ℕ → Option SlotId
first_unnoted noted nodes = slot_or (unnoted_from noted nodes 0 0 nodes) (unnoted_from noted nodes 1 0 nodes)

-- an iteration is agreed on once every slot is noted
abbrev pub gather_move : Option SlotId → CutMove
gather_move None = moves.Agree takings.Both
gather_move (Some slot) = moves.Note slot

-- ---- an agreed round

-- it is made quiet once every node's verdict is there
abbrev pub agreed_move : List (Option Verdict) → CutMove
agreed_move verdicts = if list_all is_some verdicts then moves.Quiet else moves.None
