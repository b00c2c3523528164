-- What follows for every agreement, whatever moves were made.
use Rattle.std.specs.Prelude.{◌≡◌, ◌≢◌, ◌↔◌, ◌⊎◌, ℕ, ◌+◌, ◌<◌, ◌≤◌, true, false, IfSome, List, Some, None, ⊤}
use Rattle.std.specs.List.{AllByRecursion}
use Rattle.chare_base.specs.declared.slots.SlotId.{SlotId}
use Rattle.iteration_agree.specs.declared.round.Leave.TheVariants.{Go, Hold}
use Rattle.iteration_agree.specs.declared.round.Round.TheVariants.{Agreed}
use Rattle.iteration_agree.specs.declared.round.Taking.{Taking}
use Rattle.iteration_agree.specs.declared.slot.Slot.{Slot}
use Rattle.iteration_agree.specs.Rounds.{IsAgreed, number, takes_part}
use Rattle.iteration_agree.specs.Slots.{leave, limit, slot_begun, slot_noted, slot_packed, slot_released, slot_reported, slot_rewound, slot_saw, standing_of}
use Rattle.iteration_agree.specs.Cuts.{CutState, HasSlot, agreement, begun_by, noted, opening_cut, packed_by, released_by, reported_by, rewound_by, seen_by, slot_of}
use Rattle.iteration_agree.specs.Under.{IsCut, MayPack}
use Rattle.iteration_agree.specs.Moves.{AllAllowed, Allowed, Move, Agrees, Begins, Notes, Opens, Packs, Quiets, Releases, Reports, Rewinds, Sees, after_moves, moved, mover}

-- ---- what holds of each agreement

abbrev pub StartIsCut : Type 0
StartIsCut = (nodes : ℕ) → nodes ≤ 32 → IsCut (opening_cut nodes)

abbrev pub MovesKeep : Type 0
MovesKeep = (c : CutState) (move : Move) → IsCut c → Allowed c move → IsCut (moved c move)

abbrev pub EveryCutHolds : Type 0
EveryCutHolds = (nodes : ℕ) (moves : List Move) → nodes ≤ 32 → AllAllowed (opening_cut nodes) moves → IsCut (after_moves (opening_cut nodes) moves)

-- ---- what is agreed

-- some slot takes part and isn't noted in this round
pub record Misses (taking : Taking) (c : CutState) : Type 0 where
  pub slot : SlotId
  pub has : HasSlot c slot
  pub part : takes_part taking slot.replica ≡ true
  pub unnoted : (slot_of c slot).noted ≡ None

-- some slot's noted cap is this
pub record IsNoted (k : ℕ) (c : CutState) : Type 0 where
  pub slot : SlotId
  pub has : HasSlot c slot
  pub cap : (slot_of c slot).noted ≡ Some k

-- the greatest of the floor and all noted caps: at least each, and one of them
pub record IsGreatest (k : ℕ) (c : CutState) : Type 0 where
  pub floor : c.floor ≤ k
  pub caps : (slot : SlotId) → HasSlot c slot → IfSome (slot_of c slot).noted (λ n. n ≤ k)
  pub one : (k ≡ c.floor) ⊎ IsNoted k c

abbrev pub AgreesUnlessMissing : Type 0
AgreesUnlessMissing = (c : CutState) (taking : Taking) → IsCut c → (agreement taking c ≡ None) ↔ Misses taking c

abbrev pub AgreesOnGreatest : Type 0
AgreesOnGreatest = (c : CutState) (taking : Taking) → IsCut c → IfSome (agreement taking c) (λ k. IsGreatest k c)

-- as long as it stands
abbrev pub AgreedIsGreatest : Type 0
AgreedIsGreatest = (c : CutState) (r k : ℕ) → IsCut c → c.round ≡ Agreed r k → IsGreatest k c

-- ---- nothing is begun there

-- a slot that takes part in a round that is agreed
pub record TakesPart (r k : ℕ) (slot : SlotId) (c : CutState) : Type 0 where
  pub has : HasSlot c slot
  pub agreed : c.round ≡ Agreed r k
  pub part : takes_part c.taking slot.replica ≡ true

-- its elements have begun no iteration from the agreed one on
abbrev pub TopsStayBelow : Type 0
TopsStayBelow = (c : CutState) (r k : ℕ) (slot : SlotId) → IsCut c → TakesPart r k slot c → (slot_of c slot).top ≤ k

-- and begin none
abbrev pub NoneIsBegun : Type 0
NoneIsBegun = (c : CutState) (r k j : ℕ) (slot : SlotId) → IsCut c → TakesPart r k slot c → leave (slot_of c slot) j ≡ Go → j < k

-- What was agreed stands, with who takes part, until the round is made quiet.
pub record Stands (c new : CutState) : Type 0 where
  pub round : new.round ≡ c.round
  pub taking : new.taking ≡ c.taking

abbrev pub AgreedStands : Type 0
AgreedStands = (c : CutState) (move : Move) → Allowed c move → IsAgreed c.round → move ≢ Quiets → Stands c (moved c move)

-- over every list of moves
abbrev pub AgreedStandsOn : Type 0
AgreedStandsOn = (c : CutState) (moves : List Move) → AllAllowed c moves → IsAgreed c.round → AllByRecursion (λ move. move ≢ Quiets) moves → Stands c (after_moves c moves)

-- ---- slots that have packed

-- no release of this slot, and no way back for it beyond k
abbrev pub Stays : SlotId → ℕ → Move → Type 0
Stays slot k (Sees other) = ⊤
Stays slot k (Begins other j) = ⊤
Stays slot k (Reports other) = ⊤
Stays slot k (Packs other) = ⊤
Stays slot k (Rewinds other base) = other ≡ slot → base ≤ k
Stays slot k (Releases other) = other ≢ slot
Stays slot k (Opens floor) = ⊤
Stays slot k (Notes other) = ⊤
Stays slot k (Agrees taking) = ⊤
Stays slot k Quiets = ⊤

-- it isn't free, and neither has begun nor begins an iteration from k on
pub record Waits (k : ℕ) (s : Slot) : Type 0 where
  pub free : s.free ≡ false
  pub top : s.top ≤ k
  pub begins : (j : ℕ) → leave s j ≡ Go → j < k

-- From its pack on a slot waits there until it is released, whatever rounds come.
abbrev pub PackedWaits : Type 0
PackedWaits = (c : CutState) (slot : SlotId) (moves : List Move) → IsCut c → HasSlot c slot → MayPack (slot_of c slot) → AllAllowed (packed_by slot c) moves → AllByRecursion (Stays slot (slot_of c slot).top) moves →
    Waits (slot_of c slot).top (slot_of (after_moves (packed_by slot c) moves) slot)

-- ---- begins

-- held exactly where there is a limit, and the iteration is at least that
abbrev pub HoldsExactly : Type 0
HoldsExactly = (s : Slot) (k l : ℕ) → (leave s k ≡ Hold l) ↔ ((limit s ≡ Some l) × (l ≤ k))

-- a slot that begins an iteration has its top above it, and no top falls
abbrev pub BeginsRaise : Type 0
BeginsRaise = (k : ℕ) (s : Slot) → (leave s k ≡ Go → k < (slot_begun k s).top) × (s.top ≤ (slot_begun k s).top)

-- this slot goes back
abbrev pub IsRewind : SlotId → Move → Type 0
IsRewind slot (Sees other) = ⊥
IsRewind slot (Begins other k) = ⊥
IsRewind slot (Reports other) = ⊥
IsRewind slot (Packs other) = ⊥
IsRewind slot (Rewinds other base) = other ≡ slot
IsRewind slot (Releases other) = ⊥
IsRewind slot (Opens floor) = ⊥
IsRewind slot (Notes other) = ⊥
IsRewind slot (Agrees taking) = ⊥
IsRewind slot Quiets = ⊥

abbrev pub TopsRise : Type 0
TopsRise = (c : CutState) (move : Move) (slot : SlotId) → IsCut c → Allowed c move → HasSlot c slot → (IsRewind slot move → ⊥) → (slot_of c slot).top ≤ (slot_of (moved c move) slot).top

-- ---- what each move changes

-- a slot's move makes of its slot what the move is
pub record SlotsMove (c : CutState) (slot : SlotId) : Type 0 where
  pub sees : slot_of (seen_by slot c) slot ≡ slot_saw c.round (slot_of c slot)
  pub begins : (k : ℕ) → slot_of (begun_by slot k c) slot ≡ slot_begun k (slot_of c slot)
  pub reports : slot_of (reported_by slot c) slot ≡ slot_reported (slot_of c slot)
  pub packs : slot_of (packed_by slot c) slot ≡ slot_packed (slot_of c slot)
  pub rewinds : (base : ℕ) → slot_of (rewound_by slot base c) slot ≡ slot_rewound base (slot_of c slot)
  pub releases : slot_of (released_by slot c) slot ≡ slot_released (slot_of c slot)
  pub notes : slot_of (noted slot c) slot ≡ slot_noted c.round (slot_of c slot)

abbrev pub EachSlotMoves : Type 0
EachSlotMoves = (c : CutState) (slot : SlotId) → IsCut c → HasSlot c slot → SlotsMove c slot

-- and leaves all other slots' standing; the conductor's moves leave every one's
abbrev pub OthersStand : Type 0
OthersStand = (c : CutState) (move : Move) (other : SlotId) → IsCut c → Allowed c move → HasSlot c other → mover move ≢ Some other → standing_of (slot_of (moved c move) other) ≡ standing_of (slot_of c other)

-- a slot's move, and a note, leave the round, its floor and who takes part
pub record SameRound (c new : CutState) : Type 0 where
  pub round : new.round ≡ c.round
  pub floor : new.floor ≡ c.floor
  pub taking : new.taking ≡ c.taking

abbrev pub SlotsLeaveTheRound : Type 0
SlotsLeaveTheRound = (c : CutState) (move : Move) (slot : SlotId) → mover move ≡ Some slot → SameRound c (moved c move)

abbrev pub NotesLeaveTheRound : Type 0
NotesLeaveTheRound = (c : CutState) (slot : SlotId) → SameRound c (moved c (Notes slot))

-- the round's number rises by one as it is made quiet, and else stays; so do the slots
abbrev pub number_after : CutState → Move → ℕ
number_after c (Sees slot) = number c.round
number_after c (Begins slot k) = number c.round
number_after c (Reports slot) = number c.round
number_after c (Packs slot) = number c.round
number_after c (Rewinds slot base) = number c.round
number_after c (Releases slot) = number c.round
number_after c (Opens floor) = number c.round
number_after c (Notes slot) = number c.round
number_after c (Agrees taking) = number c.round
number_after c Quiets = number c.round + 1

abbrev pub RoundsAreCounted : Type 0
RoundsAreCounted = (c : CutState) (move : Move) → (number (moved c move).round ≡ number_after c move) × ((moved c move).nodes ≡ c.nodes)
