-- One slot: when it begins an iteration, and what each move makes of it.
use Rattle.std.specs.Prelude.{ℕ, suc, Bool, true, false, not, ◌==◌, ◌&&◌, if◌then◌else◌, nat_le, max, is_none, unwrap_or, Option, Some, None}
use Rattle.iteration_agree.specs.declared.round.Leave.{Leave}
use Rattle.iteration_agree.specs.declared.round.Leave.TheVariants as leaves
use Rattle.iteration_agree.specs.declared.round.Round.{Round}
use Rattle.iteration_agree.specs.declared.round.Round.TheVariants.{Quiet, Gather, Agreed}
use Rattle.iteration_agree.specs.declared.round.Sight.{Sight}
use Rattle.iteration_agree.specs.declared.round.Standing.{Standing}
use Rattle.iteration_agree.specs.declared.slot.Cap.{Cap}
use Rattle.iteration_agree.specs.declared.slot.Slot.{Slot}
use Rattle.iteration_agree.specs.Rounds.{number}

abbrev pub opening_slot : ℕ → Slot
opening_slot replica = record { replica = replica; seen = Quiet 0; top = 0; cap = None; free = true; packed = None; noted = None }

-- a cap, if it is one of the round with this number
abbrev pub cap_in : ℕ → Option Cap → Option ℕ
cap_in round None = None
cap_in round (Some cap) = if cap.round == round then Some cap.cap else None

-- its cap, where it reported in the round that it last saw
abbrev pub reported : Slot → Option ℕ
reported s = cap_in (number s.seen) s.cap

abbrev pub is_in : ℕ → Option ℕ → Bool
is_in round None = false
is_in round (Some other) = other == round

-- whether it packed in the round that it last saw, and wasn't rewound since
abbrev pub is_packed : Slot → Bool
is_packed s = is_in (number s.seen) s.packed

abbrev pub standing_of : Slot → Standing
standing_of s = record { seen = s.seen; top = s.top; cap = reported s; free = s.free; packed = is_packed s }

-- ---- begins

abbrev pub limit_seen : Slot → Round → Option ℕ
limit_seen s (Quiet r) = None
limit_seen s (Gather r floor) = Some (unwrap_or (reported s) s.top)
limit_seen s (Agreed r k) = Some k

-- The first of these that stands: its top, where it isn't free and hasn't reported in the round that it last saw; its
-- top, where it saw a round gather and hasn't reported in it; its cap, where it saw one gather; the agreed iteration,
-- where it saw one agreed. Else there is none.
abbrev pub limit : Slot → Option ℕ
limit s = if not s.free && is_none (reported s) then Some s.top else limit_seen s s.seen

abbrev pub leave_at : Option ℕ → ℕ → Leave
leave_at None k = leaves.Go
leave_at (Some limit) k = if nat_le limit k then leaves.Hold limit else leaves.Go

-- whether it may begin iteration k
abbrev pub leave : Slot → ℕ → Leave
leave s k = leave_at (limit s) k

-- ---- its moves

abbrev pub slot_saw : Round → Slot → Slot
slot_saw round s = record s { seen = round }

abbrev pub went : Slot → ℕ → Leave → Slot
went s k leaves.Go = record s { top = max s.top (suc k) }
went s k (leaves.Hold limit) = s

abbrev pub slot_begun : ℕ → Slot → Slot
slot_begun k s = went s k (leave s k)

abbrev pub slot_reported : Slot → Slot
slot_reported s = record s { cap = Some (record { cap = s.top; round = number s.seen }) }

abbrev pub slot_packed : Slot → Slot
slot_packed s = record s { free = false; packed = Some (number s.seen) }

-- its cap stays
abbrev pub slot_rewound : ℕ → Slot → Slot
slot_rewound base s = record s { top = base; packed = None }

abbrev pub slot_released : Slot → Slot
slot_released s = record s { free = true }

-- ---- the conductor

-- what it sees of a slot in a round
abbrev pub sight_of : Round → Slot → Sight
sight_of round s = record { top = s.top; cap = cap_in (number round) s.cap }

-- it notes caps where the round gathers
abbrev pub slot_noted : Round → Slot → Slot
slot_noted (Quiet r) s = s
slot_noted (Gather r floor) s = record s { noted = cap_in r s.cap }
slot_noted (Agreed r k) s = s

abbrev pub slot_unnoted : Slot → Slot
slot_unnoted s = record s { noted = None }
