-- What holds of every world that is reached.
use Rattle.std.specs.Prelude.{◌≡◌, ℕ, zero, suc, ◌≤◌, ◌⊎◌, true, false, ◌==◌, if◌then◌else◌, is_none, List, [], ◌∷◌, ◌++◌, length, map, Option, Some, None, IfSome}
use Rattle.std.specs.List.{AllByRecursion}
use Rattle.chare_base.specs.declared.options.Options.{Options}
use Rattle.chare_base.specs.declared.slots.SlotId.{SlotId}
use Rattle.chare_base.specs.Elements.{elements}
use Rattle.chare_base.specs.Placing.{Covers}
use Rattle.iteration_agree.specs.Cuts.{CutState, slot_of}
use Rattle.iteration_agree.specs.Rounds.{takes_part}
use Rattle.iteration_agree.specs.Slots.{reported}
use Rattle.iteration_agree.specs.Under.{IsCut, SawAgreed}
use Rattle.iteration_agree.specs.declared.round.Round.TheVariants.{Agreed}
use Rattle.iteration_agree.specs.declared.slot.Slot.{Slot}
use Rattle.letter_post.specs.declared.letter.BoxId.{BoxId}
use Rattle.letter_post.specs.declared.letter.BoxId.TheVariants as boxes
use Rattle.letter_post.specs.declared.letter.Letter.{Letter}
use Rattle.letter_post.specs.declared.order.LastOrder.{LastOrder}
use Rattle.letter_post.specs.Orders.{Chain, FollowsOrder, order_at}
use Rattle.letter_post.specs.Truth.{Holds}
use Rattle.object_steps.specs.Objects.{Progress}
use Rattle.pup_state.specs.declared.piece.Piece.{Piece}
use Rattle.node_core.specs.Keeps.{AllAt, Capped, Keeps}
use Rattle.node_core.specs.Nodes.{Body, objects_of}
use Rattle.conductor_core.specs.Conductors.{ConductorState, IsOf}
use Rattle.conductor_core.specs.Tells.{Tells}
use Rattle.world_core.specs.declared.doing.Since.{Since}
use Rattle.world_core.specs.declared.doing.Since.TheVariants.{Nothing, Ordered, Resumed}
use Rattle.world_core.specs.declared.event.Event.{Event}
use Rattle.world_core.specs.Steps.{Fresh}
use Rattle.world_core.specs.Worlds.{Setting, SlotState, WorldState, happens, opening_world, reached, seats_of, slot_doing, stand}

-- every letter of an inbox is true to it
abbrev pub AllTrue : Setting → BoxId → List Letter → Type 0
AllTrue s box letters = AllByRecursion (Holds s.plan s.script s.place box) letters

-- ---- a slot beside its place in the agreement

-- the iterations below this number an element has begun, or they are over
abbrev pub begun_of : Progress → ℕ
begun_of o = if is_none o.step then o.done else suc o.done

-- No element has begun the slot's top or a later iteration. While the slot has to go back, its elements are at the base.
abbrev pub IsBounded : ℕ → Option ℕ → List Progress → Type 0
IsBounded top None objects = AllByRecursion (λ o. begun_of o ≤ top) objects
IsBounded top (Some base) objects = AllAt base objects

-- a slot begins nothing from this iteration on until it is released
pub record Stays (k : ℕ) (slot : Slot) : Type 0 where
  pub held : slot.free ≡ false
  pub top : slot.top ≤ k
  pub seen : (reported slot ≡ None) ⊎ SawAgreed k slot.seen

abbrev pub fresh_of : Option Body → Option Piece
fresh_of None = None
fresh_of (Some b) = b.fresh

-- Once it heard an order since its last pack, it has no fresh piece.
abbrev pub IsSince : Since → Option Piece → Type 0
IsSince Nothing fresh = Unit {0}
IsSince Ordered fresh = fresh ≡ None
IsSince Resumed fresh = fresh ≡ None

-- what a replica was ordered last
abbrev pub last_sent : ConductorState → ℕ → LastOrder
last_sent c replica = if replica == 0 then order_at c.first c.ledger.base else order_at c.second c.ledger.base

pub record SlotSound (s : Setting) (cut : CutState) (c : ConductorState) (x : SlotState) : Type 0 where
  -- its node keeps the definition under its last order
  pub keeps : Keeps s.plan s.script s.place x.node
  pub letters : AllTrue s (boxes.Slot x.node.slot) x.box
  -- the orders of its inbox follow one another, up to the last that was sent to its replica
  pub chain : Chain s.plan s.script x.node.last x.box (last_sent c x.node.slot.replica)
  pub bounded : IsBounded (slot_of cut x.node.slot).top x.back (objects_of x.node.body)
  pub packed : IfSome (fresh_of x.node.body) (λ (piece : Piece). Stays piece.iteration (slot_of cut x.node.slot))
  pub since : IsSince x.since (fresh_of x.node.body)
  -- what is kept of it is so: how its objects stand, and what it would do
  pub seats : x.seats ≡ seats_of s.plan (stand cut x.node.slot).top x.node
  pub current : x.doing ≡ slot_doing s.plan cut x

-- the first of these letters follows the last order
abbrev pub FirstFollows : Setting → LastOrder → List Letter → Type 0
FirstFollows s last [] = Unit {0}
FirstFollows s last (letter ∷ more) = FollowsOrder s.plan s.script last letter

-- what the events of a slot ask of it
pub record Served (s : Setting) (cut : CutState) (x : SlotState) : Type 0 where
  pub fresh : Fresh s.plan cut x
  pub keeps : Keeps s.plan s.script s.place x.node
  pub capped : Capped (slot_of cut x.node.slot).top x.node
  pub letters : AllTrue s (boxes.Slot x.node.slot) x.box
  pub follows : FirstFollows s x.node.last x.box

-- what the calls of a world ask
pub record Serves (s : Setting) (w : WorldState) : Type 0 where
  pub slots : AllByRecursion (Served s w.cut) w.posts.slots
  pub conductor : IsOf s.nodes w.conductor
  pub agreement : IsCut w.cut
  pub nodes : w.cut.nodes ≡ s.nodes

abbrev pub slot_name : SlotState → SlotId
slot_name x = x.node.slot

-- the slots of a replica, by node
abbrev pub names_to : ℕ → ℕ → List SlotId
names_to replica zero = []
names_to replica (suc j) = names_to replica j ++ record { replica = replica; node = j } ∷ []

abbrev pub names : ℕ → List SlotId
names nodes = names_to 0 nodes ++ names_to 1 nodes

pub record Sound (s : Setting) (o : Options) (w : WorldState) : Type 0 where
  pub slots : AllByRecursion (SlotSound s w.cut w.conductor) w.posts.slots
  -- each slot stands at its place
  pub names : map slot_name w.posts.slots ≡ names s.nodes
  pub desk : AllTrue s boxes.Conductor w.posts.desk
  pub conductor : Tells s.plan s.script o s.place w.conductor
  pub agreement : IsCut w.cut
  pub nodes : w.cut.nodes ≡ s.nodes

-- the placement is one of the plan's elements on these nodes
pub record IsPlaced (s : Setting) : Type 0 where
  pub count : length s.place ≡ elements s.plan
  pub covers : Covers s.place s.nodes

-- the options are for the setting's nodes
pub record IsFor (s : Setting) (o : Options) : Type 0 where
  pub nodes : o.nodes ≡ s.nodes
  pub few : s.nodes ≤ 32

-- ---- laws

abbrev pub StartIsSound : Type 0
StartIsSound = (s : Setting) (o : Options) → IsPlaced s → IsFor s o → Sound s o (opening_world s o)

-- by every event, enabled or not
abbrev pub EveryEventKeeps : Type 0
EveryEventKeeps = (s : Setting) (o : Options) (w : WorldState) (event : Event) → IsPlaced s → IsFor s o → Sound s o w → Sound s o (happens s w event)

-- by every list of events
abbrev pub EveryWorldIsSound : Type 0
EveryWorldIsSound = (s : Setting) (o : Options) (all : List Event) → IsPlaced s → IsFor s o → Sound s o (reached s (opening_world s o) all)

-- what the calls of a world ask
abbrev pub SoundServes : Type 0
SoundServes = (s : Setting) (o : Options) (w : WorldState) → IsFor s o → Sound s o w → Serves s w

-- ---- no element begins the agreed iteration

-- of a slot that takes part, and hasn't to go back
pub record IsOn (cut : CutState) (x : SlotState) : Type 0 where
  pub part : takes_part cut.taking x.node.slot.replica ≡ true
  pub back : x.back ≡ None

-- While iteration k is agreed none of its elements has begun it or a later one, so it has packed there before it begins any.
abbrev pub NoneBegun : WorldState → Type 0
NoneBegun w = (r k : ℕ) → w.cut.round ≡ Agreed r k → AllByRecursion (λ x. IsOn w.cut x → AllByRecursion (λ o. begun_of o ≤ k) (objects_of x.node.body)) w.posts.slots

abbrev pub EveryWorldWaits : Type 0
EveryWorldWaits = (s : Setting) (o : Options) (all : List Event) → IsPlaced s → IsFor s o → NoneBegun (reached s (opening_world s o) all)
