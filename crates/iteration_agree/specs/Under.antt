-- What holds of the agreement after every list of moves, and when each move may be made.
use Rattle.std.specs.Prelude.{◌≡◌, ℕ, ◌+◌, ◌<◌, ◌≤◌, true, false, max, IfSome, IsSome, length, ⊤, List, Some, None}
use Rattle.std.specs.List.{AllByRecursion}
use Rattle.std.specs.Option.{ForSome}
use Rattle.chare_base.specs.declared.slots.SlotId.{SlotId}
use Rattle.iteration_agree.specs.declared.round.Round.{Round}
use Rattle.iteration_agree.specs.declared.round.Round.TheVariants.{Quiet, Gather, Agreed}
use Rattle.iteration_agree.specs.declared.round.Taking.{Taking}
use Rattle.iteration_agree.specs.declared.slot.Slot.{Slot}
use Rattle.iteration_agree.specs.Rounds.{IsAgreed, IsGather, IsQuiet, last_round, most_iterations, number, takes_part}
use Rattle.iteration_agree.specs.Slots.{reported}
use Rattle.iteration_agree.specs.Cuts.{CutState, HasSlot, greatest, slot_of}

-- ---- one slot

-- a slot that saw the round of this number saw it as it stands: its floor, or what was agreed
abbrev pub SeenAs : Round → ℕ → Round → Type 0
SeenAs round floor (Quiet r) = ⊤
SeenAs round floor (Gather r f) = f ≡ floor
SeenAs round floor (Agreed r k) = round ≡ Agreed r k

-- in this round: while it is quiet, no slot reported in it or saw it otherwise; while it gathers, a slot that reported
-- in it has a top of at most its cap or the floor; once it is agreed, each slot that takes part is noted, and its top is
-- at most the agreed iteration
abbrev pub InRound : Round → ℕ → Taking → Slot → Type 0
InRound (Quiet r) floor taking s = (IfSome s.cap (λ c. c.round < r)) × (number s.seen ≡ r → IsQuiet s.seen)
InRound (Gather r f) floor taking s = IfSome s.cap (λ c. c.round ≡ r → s.top ≤ max c.cap floor)
InRound (Agreed r k) floor taking s = takes_part taking s.replica ≡ true → IsSome s.noted × (s.top ≤ k)

-- one slot, in a round with this floor and these that take part
pub record UnderSlot (round : Round) (floor : ℕ) (taking : Taking) (s : Slot) : Type 0 where
  -- it has seen no later round, and reported in no later one than it saw
  pub seen : number s.seen ≤ number round
  pub reported : IfSome s.cap (λ c. c.round ≤ number s.seen)
  -- where it reported in the round that it last saw, it didn't see it quiet
  pub loud : IfSome s.cap (λ c. c.round ≡ number s.seen → IsQuiet s.seen → ⊥)
  -- where it isn't free and reported in the round that it last saw, it saw it agreed
  pub parked : s.free ≡ false → IfSome s.cap (λ c. c.round ≡ number s.seen → IsAgreed s.seen)
  pub same : number s.seen ≡ number round → SeenAs round floor s.seen
  -- what is noted is its cap of this round
  pub noted : IfSome s.noted (λ n. s.cap ≡ Some (record { cap = n; round = number round }))
  pub here : InRound round floor taking s

-- ---- all of it

-- a round that gathers has its floor; what is agreed is the greatest of the floor and the noted caps
abbrev pub RoundIs : Round → ℕ → List Slot → Type 0
RoundIs (Quiet r) floor slots = ⊤
RoundIs (Gather r f) floor slots = f ≡ floor
RoundIs (Agreed r k) floor slots = k ≡ greatest floor slots

pub record Under (c : CutState) : Type 0 where
  pub slots : AllByRecursion (UnderSlot c.round c.floor c.taking) c.slots
  pub round : RoundIs c.round c.floor c.slots

abbrev pub SmallSlot : Slot → Type 0
SmallSlot s = (s.top ≤ most_iterations) × IfSome s.cap (λ c. c.cap ≤ most_iterations)

abbrev pub SmallRound : Round → Type 0
SmallRound (Quiet r) = r ≤ last_round
SmallRound (Gather r floor) = (r ≤ last_round) × (floor ≤ most_iterations)
SmallRound (Agreed r k) = (r ≤ last_round) × (k ≤ most_iterations)

-- numbers of rounds, floors, tops, caps and what is agreed are within bounds
pub record Small (c : CutState) : Type 0 where
  pub nodes : c.nodes ≤ 32
  pub round : SmallRound c.round
  pub floor : c.floor ≤ most_iterations
  pub slots : AllByRecursion SmallSlot c.slots

-- every slot stands at its place
pub record Named (c : CutState) : Type 0 where
  pub long : length c.slots ≡ c.nodes + c.nodes
  pub replica : (slot : SlotId) → HasSlot c slot → (slot_of c slot).replica ≡ slot.replica

pub record IsCut (c : CutState) : Type 0 where
  pub under : Under c
  pub small : Small c
  pub named : Named c

-- ---- when a slot's moves may be made

pub record MayBegin (k : ℕ) (s : Slot) : Type 0 where
  pub below : k ≤ s.top
  pub few : k < most_iterations

pub record MayReport (s : Slot) : Type 0 where
  pub gather : IsGather s.seen
  pub free : s.free ≡ true
  pub once : reported s ≡ None

-- it saw this iteration agreed
abbrev pub SawAgreed : ℕ → Round → Type 0
SawAgreed top (Quiet r) = ⊥
SawAgreed top (Gather r floor) = ⊥
SawAgreed top (Agreed r k) = top ≡ k

abbrev pub MayPack : Slot → Type 0
MayPack s = SawAgreed s.top s.seen

-- at most the floor, or the agreed iteration, that it saw
abbrev pub BackTo : ℕ → Round → Type 0
BackTo base (Quiet r) = ⊤
BackTo base (Gather r floor) = base ≤ floor
BackTo base (Agreed r k) = base ≤ k

pub record MayRewind (base : ℕ) (s : Slot) : Type 0 where
  pub few : base ≤ most_iterations
  -- where it reported in the round that it last saw
  pub back : ForSome (reported s) (λ _. BackTo base s.seen)

abbrev pub MayRelease : Slot → Type 0
MayRelease s = reported s ≡ None
