-- Worlds in which nothing is lost, and worlds that end: runs without faults, round by round.
use Rattle.std.specs.Prelude.{◌≡◌, ℕ, ◌<◌, ◌≤◌, ◌⊎◌, if◌then◌else◌, true, false, List, [], ◌∷◌, length, Some, None, IfSome, IsSome}
use Rattle.std.specs.List.{AllByRecursion}
use Rattle.chare_base.specs.declared.options.Options.{Options}
use Rattle.chare_base.specs.declared.slots.LineSet.{LineSet}
use Rattle.chare_base.specs.declared.slots.SlotId.{SlotId}
use Rattle.iteration_agree.specs.Cuts.{CutState, slot_of}
use Rattle.iteration_agree.specs.Rounds.{number}
use Rattle.iteration_agree.specs.declared.round.Round.{Round}
use Rattle.iteration_agree.specs.declared.round.Round.TheVariants as rounds
use Rattle.iteration_agree.specs.declared.round.Taking.TheVariants as takings
use Rattle.iteration_agree.specs.declared.slot.Cap.{Cap}
use Rattle.iteration_agree.specs.declared.slot.Slot.{Slot}
use Rattle.letter_post.specs.declared.letter.BoxId.{BoxId}
use Rattle.letter_post.specs.declared.letter.BoxId.TheVariants as boxes
use Rattle.letter_post.specs.declared.letter.Letter.{Letter}
use Rattle.letter_post.specs.declared.letter.Letter.TheVariants as letters
use Rattle.letter_post.specs.declared.letter.Sent.{Sent}
use Rattle.letter_post.specs.declared.stamp.Stamp.{Stamp}
use Rattle.letter_post.specs.Orders.{is_mail}
use Rattle.letter_post.specs.Stamps.{same_stamp}
use Rattle.pup_state.specs.declared.piece.Piece.{Piece}
use Rattle.run_ledger.specs.Conditions.{both_up, due, is_next}
use Rattle.node_core.specs.declared.piece.Held.{Held}
use Rattle.node_core.specs.Mail.{Did, In, Owes, PartialWasSent, TotalWasSent}
use Rattle.node_core.specs.Nodes.{Body}
use Rattle.conductor_core.specs.declared.wants.Phase.{Phase}
use Rattle.conductor_core.specs.declared.wants.Phase.TheVariants as phases
use Rattle.conductor_core.specs.Conductors.{ConductorState, is_at}
use Rattle.conductor_core.specs.Moves.{is_noted, slot_named}
use Rattle.conductor_core.specs.Tells.{verdict_at}
use Rattle.world_core.specs.declared.doing.Since.TheVariants.{Nothing, Ordered, Resumed}
use Rattle.world_core.specs.declared.event.Actor.{Actor}
use Rattle.world_core.specs.declared.event.Event.{Event}
use Rattle.world_core.specs.Sound.{IsFor, IsPlaced, Sound}
use Rattle.world_core.specs.Worlds.{Setting, SlotState, WorldState, enabled, happens, opening_world, reached, slot_at}

-- ---- what there is at present

-- a replica's stamp, from the start to the end: no line ever shapes it, and no epoch follows the first
abbrev pub plain_stamp : ℕ → Stamp
plain_stamp replica = record { replica = replica; epoch = 0; lines = record { 0 = 0 } }

-- the iteration of the checkpoint that is taken, or else of the last one that was accepted
abbrev pub present_in : ℕ → Phase → ℕ
present_in base phases.Quiet = base
present_in base phases.Gather = base
present_in base (phases.Agreed k) = k

abbrev pub present : ConductorState → ℕ
present c = present_in c.ledger.base c.phase

-- the orders among letters, and the pieces among them with their stamps
abbrev pub orders_in : List Letter → List Letter
orders_in [] = []
orders_in (letter ∷ more) = if is_mail letter then orders_in more else letter ∷ orders_in more

abbrev pub pieces_of : Letter → List Held → List Held
pieces_of (letters.Parcel stamp entry k to payload) more = more
pieces_of (letters.Partial stamp r k node value) more = more
pieces_of (letters.Total stamp r k value) more = more
pieces_of (letters.Piece stamp piece) more = record { stamp = stamp; piece = piece } ∷ more
pieces_of (letters.VerdictOf first second node k verdict piece) more = more
pieces_of (letters.Lend k fresh) more = more
pieces_of (letters.Take stamp k live piece) more = more
pieces_of (letters.Restore stamp k live) more = more
pieces_of (letters.Commit stamp k live) more = more
pieces_of (letters.Resume stamp) more = more
pieces_of (letters.Died stamp slot line) more = more
pieces_of letters.Stop more = more

abbrev pub pieces_in : List Letter → List Held
pieces_in [] = []
pieces_in (letter ∷ more) = pieces_of letter (pieces_in more)

-- ---- nothing is lost

-- all that a letter asks of the conductor is done: a verdict at the agreed iteration is kept
abbrev pub Told : Letter → ConductorState → Type 0
Told (letters.Parcel stamp entry k to payload) c = Unit {0}
Told (letters.Partial stamp r k node value) c = Unit {0}
Told (letters.Total stamp r k value) c = Unit {0}
Told (letters.Piece stamp piece) c = Unit {0}
Told (letters.VerdictOf first second node k verdict piece) c =
    is_at k c.phase ≡ true → node < length c.verdicts → same_stamp first c.first ≡ true → same_stamp second c.second ≡ true → IsSome (verdict_at c.verdicts node)
Told (letters.Lend k fresh) c = Unit {0}
Told (letters.Take stamp k live piece) c = Unit {0}
Told (letters.Restore stamp k live) c = Unit {0}
Told (letters.Commit stamp k live) c = Unit {0}
Told (letters.Resume stamp) c = Unit {0}
Told (letters.Died stamp slot line) c = Unit {0}
Told letters.Stop c = Unit {0}

-- what was sent lies in its inbox, or is done
abbrev pub Arrives : Setting → List Sent → WorldState → BoxId → Letter → Type 0
Arrives s log w (boxes.Slot slot) letter = (x : SlotState) → slot_at s.nodes w.posts.slots slot ≡ Some x → In letter x.box ⊎ Did s.plan log letter x.node
Arrives s log w boxes.Conductor letter = In letter w.posts.desk ⊎ Told letter w.conductor

abbrev pub Arrived : Setting → List Sent → WorldState → Sent → Type 0
Arrived s log w sent = Arrives s log w sent.to sent.letter

-- ---- a slot in the rounds

-- It packed, and reported, in rounds alone that are over.
pub record Earlier (round : Round) (slot : Slot) : Type 0 where
  pub packed : IfSome slot.packed (λ r. r < number round)
  pub cap : IfSome slot.cap (λ (c : Cap). c.round < number round)

-- it goes from one checkpoint to the next
pub record IsFree (cut : CutState) (c : ConductorState) (slot : Slot) (x : SlotState) (b : Body) : Type 0 where
  pub free : slot.free ≡ true
  pub fresh : b.fresh ≡ None
  pub goes : b.waits ≡ false
  pub orders : orders_in x.box ≡ []
  pub base : x.node.last.base ≡ c.ledger.base
  pub packed : IfSome slot.packed (λ r. r < number cut.round)

-- it packed at the agreed iteration, and the round isn't over
pub record IsPacked (cut : CutState) (c : ConductorState) (slot : Slot) (x : SlotState) (b : Body) : Type 0 where
  pub held : slot.free ≡ false
  pub piece : Piece
  pub fresh : b.fresh ≡ Some piece
  pub agreed : c.phase ≡ phases.Agreed piece.iteration
  pub goes : b.waits ≡ false
  pub since : x.since ≡ Nothing
  pub orders : orders_in x.box ≡ []
  pub base : x.node.last.base ≡ c.ledger.base
  pub packed : slot.packed ≡ Some (number cut.round)

-- its piece was accepted: the order to take it as the base is on its way, and Resume behind it
pub record IsAccepted (cut : CutState) (c : ConductorState) (slot : Slot) (x : SlotState) (b : Body) : Type 0 where
  pub held : slot.free ≡ false
  pub piece : Piece
  pub fresh : b.fresh ≡ Some piece
  pub at : piece.iteration ≡ c.ledger.base
  pub goes : b.waits ≡ false
  pub since : x.since ≡ Nothing
  pub live : LineSet
  pub orders : orders_in x.box ≡ letters.Commit (plain_stamp x.node.slot.replica) c.ledger.base live ∷ letters.Resume (plain_stamp x.node.slot.replica) ∷ []
  pub earlier : Earlier cut.round slot

-- it took its piece as the base, and Resume is on its way
pub record IsCommitted (cut : CutState) (c : ConductorState) (slot : Slot) (x : SlotState) (b : Body) : Type 0 where
  pub held : slot.free ≡ false
  pub fresh : b.fresh ≡ None
  pub waits : b.waits ≡ true
  pub since : x.since ≡ Ordered
  pub orders : orders_in x.box ≡ letters.Resume (plain_stamp x.node.slot.replica) ∷ []
  pub base : x.node.last.base ≡ c.ledger.base
  pub earlier : Earlier cut.round slot

-- it heard Resume, and isn't free yet
pub record IsResumed (cut : CutState) (c : ConductorState) (slot : Slot) (x : SlotState) (b : Body) : Type 0 where
  pub held : slot.free ≡ false
  pub fresh : b.fresh ≡ None
  pub goes : b.waits ≡ false
  pub since : x.since ≡ Resumed
  pub orders : orders_in x.box ≡ []
  pub base : x.node.last.base ≡ c.ledger.base
  pub earlier : Earlier cut.round slot

-- how far it is between one pack and the next
pub data Stage (cut : CutState) (c : ConductorState) (slot : Slot) (x : SlotState) (b : Body) : Type 0 where
  Free : (is : IsFree cut c slot x b) → Stage cut c slot x b
  Packed : (is : IsPacked cut c slot x b) → Stage cut c slot x b
  Accepted : (is : IsAccepted cut c slot x b) → Stage cut c slot x b
  Committed : (is : IsCommitted cut c slot x b) → Stage cut c slot x b
  Freed : (is : IsResumed cut c slot x b) → Stage cut c slot x b

pub record SlotAfloat (s : Setting) (cut : CutState) (c : ConductorState) (log : List Sent) (x : SlotState) : Type 0 where
  -- it is live
  pub body : Body
  pub alive : x.node.body ≡ Some body
  pub stamp : x.node.last.stamp ≡ plain_stamp x.node.slot.replica
  -- whatever its node should have sent was sent
  pub owes : Owes s.plan s.place (present c) log x.node
  -- it never has to go back
  pub back : x.back ≡ None
  pub stage : Stage cut c (slot_of cut x.node.slot) x body
  -- no iteration is begun behind the job's last
  pub top : (slot_of cut x.node.slot).top ≤ s.plan.iterations
  pub cap : IfSome (slot_of cut x.node.slot).cap (λ (c : Cap). c.cap ≤ s.plan.iterations)
  -- pieces come to replica 0 alone, and are replica 1's
  pub others : x.node.slot.replica ≡ 1 → pieces_in x.box ≡ []
  pub buddy : IfSome body.other (λ (held : Held). held.stamp ≡ plain_stamp 1)

-- ---- a node's two slots

-- a slot of this name has packed at an iteration
pub record HasPacked (s : Setting) (w : WorldState) (replica j k : ℕ) : Type 0 where
  pub slot : SlotState
  pub there : slot_at s.nodes w.posts.slots (slot_named replica j) ≡ Some slot
  pub body : Body
  pub alive : slot.node.body ≡ Some body
  pub piece : Piece
  pub fresh : body.fresh ≡ Some piece
  pub at : piece.iteration ≡ k

-- what replica 0's slot has of its buddy's piece at iteration k: it wasn't sent, or is on its way, or is held
pub record IsUnsent (k : ℕ) (other : SlotState) (x : SlotState) (b own : Body) : Type 0 where
  pub unpacked : own.fresh ≡ None
  pub none : pieces_in x.box ≡ []
  pub older : IfSome b.other (λ (held : Held). held.piece.iteration < k)

pub record IsSent (k : ℕ) (other : SlotState) (x : SlotState) (b own : Body) : Type 0 where
  pub piece : Piece
  pub packed : own.fresh ≡ Some piece
  pub at : piece.iteration ≡ k
  pub one : pieces_in x.box ≡ record { stamp = plain_stamp 1; piece = piece } ∷ []
  pub older : IfSome b.other (λ (held : Held). held.piece.iteration < k)

pub record IsHeld (k : ℕ) (other : SlotState) (x : SlotState) (b own : Body) : Type 0 where
  pub piece : Piece
  pub packed : own.fresh ≡ Some piece
  pub none : pieces_in x.box ≡ []
  pub held : Held
  pub there : b.other ≡ Some held
  pub at : held.piece.iteration ≡ k

pub data Passes (k : ℕ) (other : SlotState) (x : SlotState) (b own : Body) : Type 0 where
  Unsent : (is : IsUnsent k other x b own) → Passes k other x b own
  OnItsWay : (is : IsSent k other x b own) → Passes k other x b own
  IsThere : (is : IsHeld k other x b own) → Passes k other x b own

-- while no iteration is agreed no piece is on its way
abbrev pub PairIn : Phase → SlotState → SlotState → Body → Body → Type 0
PairIn phases.Quiet other x b own = pieces_in x.box ≡ []
PairIn phases.Gather other x b own = pieces_in x.box ≡ []
PairIn (phases.Agreed k) other x b own = Passes k other x b own

abbrev pub Pair : Setting → WorldState → ℕ → Type 0
Pair s w j =
    (x other : SlotState) (b own : Body) → slot_at s.nodes w.posts.slots (slot_named 0 j) ≡ Some x → slot_at s.nodes w.posts.slots (slot_named 1 j) ≡ Some other →
    x.node.body ≡ Some b → other.node.body ≡ Some own → PairIn w.conductor.phase other x b own

-- both slots of a node have packed at an iteration, and that of replica 0 holds its buddy's piece
pub record Compared (s : Setting) (w : WorldState) (j k : ℕ) : Type 0 where
  pub first : HasPacked s w 0 j k
  pub second : HasPacked s w 1 j k
  pub held : Held
  pub other : first.body.other ≡ Some held
  pub at : held.piece.iteration ≡ k

-- A verdict of a checkpoint behind the base is one of pieces that are there.
abbrev pub Backed : Setting → WorldState → Letter → Type 0
Backed s w (letters.Parcel stamp entry k to payload) = Unit {0}
Backed s w (letters.Partial stamp r k node value) = Unit {0}
Backed s w (letters.Total stamp r k value) = Unit {0}
Backed s w (letters.Piece stamp piece) = Unit {0}
Backed s w (letters.VerdictOf first second node k verdict piece) = w.conductor.ledger.base < k → Compared s w node k
Backed s w (letters.Lend k fresh) = Unit {0}
Backed s w (letters.Take stamp k live piece) = Unit {0}
Backed s w (letters.Restore stamp k live) = Unit {0}
Backed s w (letters.Commit stamp k live) = Unit {0}
Backed s w (letters.Resume stamp) = Unit {0}
Backed s w (letters.Died stamp slot line) = Unit {0}
Backed s w letters.Stop = Unit {0}

-- ---- the conductor beside the agreement

-- It brought the round as far as it is: it opened one at what is due, and the ledger takes what is agreed.
abbrev pub IsPhase : ConductorState → ℕ → Phase → Round → Type 0
IsPhase c floor phases.Quiet (rounds.Quiet r) = Unit {0}
IsPhase c floor phases.Quiet (rounds.Gather r low) = ⊥
IsPhase c floor phases.Quiet (rounds.Agreed r k) = ⊥
IsPhase c floor phases.Gather (rounds.Quiet r) = ⊥
IsPhase c floor phases.Gather (rounds.Gather r low) = floor ≡ due c.ledger
IsPhase c floor phases.Gather (rounds.Agreed r k) = ⊥
IsPhase c floor (phases.Agreed j) (rounds.Quiet r) = ⊥
IsPhase c floor (phases.Agreed j) (rounds.Gather r low) = ⊥
IsPhase c floor (phases.Agreed j) (rounds.Agreed r k) = (j ≡ k) × (is_next c.ledger k ≡ true)

pub record Beside (s : Setting) (cut : CutState) (c : ConductorState) : Type 0 where
  pub phase : IsPhase c cut.floor c.phase cut.round
  pub both : cut.taking ≡ takings.Both
  -- each round accepted a checkpoint
  pub counted : number cut.round ≤ c.ledger.base
  pub going : c.ledger.base < s.plan.iterations
  pub every : 1 ≤ c.ledger.options.every
  pub unended : c.ledger.ended ≡ false
  pub up : both_up c.ledger ≡ true
  pub first : c.first ≡ plain_stamp 0
  pub second : c.second ≡ plain_stamp 1
  -- whom it noted is noted
  pub noted : c.phase ≡ phases.Gather → (slot : SlotId) → is_noted c.noted s.nodes slot ≡ true → IsSome (slot_of cut slot).noted

-- ---- the world

-- What is over counts as sent: all shares and totals of iterations before the base.
pub record IsOver (r x k j : ℕ) (log : List Sent) : Type 0 where
  pub share : PartialWasSent (plain_stamp r) x k j log
  pub total : TotalWasSent (plain_stamp r) x k log j

pub record Afloat (s : Setting) (w : WorldState) : Type 0 where
  -- all that was sent, and may be asked yet
  pub log : List Sent
  pub arrived : AllByRecursion (Arrived s log w) log
  pub backed : AllByRecursion (λ (sent : Sent). Backed s w sent.letter) log
  pub over : (r x k j : ℕ) → r ≤ 1 → x < length s.plan.reductions → k < w.conductor.ledger.base → j < s.nodes → IsOver r x k j log
  pub slots : AllByRecursion (SlotAfloat s w.cut w.conductor log) w.posts.slots
  pub pairs : (j : ℕ) → j < s.nodes → Pair s w j
  -- what it has heard, and is to hear, is of pieces that are there
  pub desk : AllByRecursion (Backed s w) w.posts.desk
  pub heard : (j : ℕ) → IsSome (verdict_at w.conductor.verdicts j) → Compared s w j (present w.conductor)
  pub beside : Beside s w.cut w.conductor

-- ---- the statements, for scripts without faults

-- no event is enabled
abbrev pub IsStill : Setting → WorldState → Type 0
IsStill s w = (actor : Actor) → enabled s.plan s.nodes w actor ≡ None

-- a run of which no fault is to come, on nodes of which each has an element
pub record IsPlain (s : Setting) (o : Options) : Type 0 where
  pub none : s.script ≡ []
  pub placed : IsPlaced s
  pub options : IsFor s o
  pub some : 1 ≤ s.nodes
  pub every : 1 ≤ o.every

abbrev pub StartIsAfloat : Type 0
StartIsAfloat = (s : Setting) (o : Options) → IsPlain s o → Afloat s (opening_world s o)

-- by every event, enabled or not, after which the run goes on
abbrev pub EveryEventKeepsAfloat : Type 0
EveryEventKeepsAfloat = (s : Setting) (o : Options) (w : WorldState) (event : Event) → IsPlain s o → Sound s o w → Afloat s w → (happens s w event).conductor.outcome ≡ None → Afloat s (happens s w event)

-- where no event is enabled the run has ended
abbrev pub NoStandstill : Type 0
NoStandstill = (s : Setting) (o : Options) (w : WorldState) → IsPlain s o → Sound s o w → Afloat s w → IsStill s w → IsSome w.conductor.outcome

-- by every list of events, until the run ends
abbrev pub EveryWorldStaysAfloat : Type 0
EveryWorldStaysAfloat = (s : Setting) (o : Options) (all : List Event) → IsPlain s o → (reached s (opening_world s o) all).conductor.outcome ≡ None → Afloat s (reached s (opening_world s o) all)

-- whatever events led there
abbrev pub NeverStandsStill : Type 0
NeverStandsStill = (s : Setting) (o : Options) (all : List Event) → IsPlain s o → IsStill s (reached s (opening_world s o) all) → IsSome (reached s (opening_world s o) all).conductor.outcome
