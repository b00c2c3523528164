-- Which events can happen.
use Rattle.std.specs.Prelude.{◌≡◌, ℕ, ◌+◌, suc, drop, slice_get, slice_set, ◌&&◌, not, Bool, true, false, if◌then◌else◌, is_some, is_none, List, [], ◌∷◌, Option, Some, None}
use Rattle.chare_base.specs.declared.message.EntryId.{EntryId}
use Rattle.chare_base.specs.declared.plan.ElementId.{ElementId}
use Rattle.chare_base.specs.declared.plan.Plan.{Plan}
use Rattle.fault_script.specs.declared.fault.Fault.{Fault}
use Rattle.conductor_core.specs.Conductors.{ConductorState}
use Rattle.iteration_agree.specs.Cuts.{CutState, HasSlot}
use Rattle.letter_post.specs.declared.letter.Letter.{Letter}
use Rattle.letter_post.specs.declared.letter.Letter.TheVariants as letters
use Rattle.letter_post.specs.declared.stamp.Stamp.{Stamp}
use Rattle.letter_post.specs.Stamps.{same_stamp}
use Rattle.node_core.specs.Keeps.{Fitted}
use Rattle.object_steps.specs.Objects.{Progress}
use Rattle.node_core.specs.Nodes.{NodeState, awaits_by, node_can_run, node_heard, objects_of, rests}
use Rattle.node_core.specs.Rosters.{seat_of}
use Rattle.world_core.specs.declared.doing.Doing.{Doing}
use Rattle.world_core.specs.declared.doing.Doing.TheVariants as doings
use Rattle.world_core.specs.declared.doing.Readiness.{Readiness}
use Rattle.world_core.specs.declared.doing.Readiness.TheVariants.{Behind, Ready, Awaits, Level, Past}
use Rattle.world_core.specs.declared.doing.Reach.{Reach}
use Rattle.world_core.specs.declared.doing.Reach.TheVariants.{Nobody, Message, Everybody}
use Rattle.world_core.specs.declared.doing.Since.{Since}
use Rattle.world_core.specs.declared.event.Event.{Event}
use Rattle.world_core.specs.declared.event.Event.TheVariants as events
use Rattle.world_core.specs.Worlds.{Posts, Setting, SlotState, WorldState, back_after, conductor_due, readiness, seats_of, since_after, slot_at, slot_doing, slot_move, stand}

abbrev pub setting : Plan → List Fault → List ℕ → ℕ → Setting
setting p script place nodes = record { plan = p; script = script; place = place; nodes = nodes }

abbrev pub world_of : Posts → CutState → ConductorState → Bool → WorldState
world_of posts cut c over = record { posts = posts; cut = cut; conductor = c; over = over }

-- ---- how objects stand, kept as events touch them

-- which objects a letter may touch that comes to a node of this stamp
abbrev pub reach_of : Stamp → Letter → Reach
reach_of own (letters.Parcel stamp entry k to payload) = Message (same_stamp stamp own) to k entry
reach_of own (letters.Partial stamp r k node value) = Nobody
reach_of own (letters.Total stamp r k value) = Everybody
reach_of own (letters.Piece stamp piece) = Nobody
reach_of own (letters.VerdictOf first second node k verdict piece) = Nobody
reach_of own (letters.Lend k fresh) = Nobody
reach_of own (letters.Take stamp k live piece) = Everybody
reach_of own (letters.Restore stamp k live) = Everybody
reach_of own (letters.Commit stamp k live) = Everybody
reach_of own (letters.Resume stamp) = Everybody
reach_of own (letters.Died stamp slot line) = Nobody
reach_of own letters.Stop = Nobody

-- how the object of a seat stands; a seat that has none stands nowhere
abbrev pub readiness_by : Plan → ℕ → Option Progress → Readiness
readiness_by p top None = Past
readiness_by p top (Some o) = readiness p top o

abbrev pub readiness_at : Plan → ℕ → NodeState → ℕ → Readiness
readiness_at p top n i = readiness_by p top (slice_get (objects_of n.body) i)

-- the object of a seat may have changed
abbrev pub marked : Plan → ℕ → NodeState → Option ℕ → List Readiness → List Readiness
marked p top n None seats = seats
marked p top n (Some i) seats = slice_set seats i (readiness_at p top n i)

abbrev pub is_awaiting : Option Readiness → Bool
is_awaiting None = false
is_awaiting (Some Behind) = false
is_awaiting (Some Ready) = false
is_awaiting (Some Awaits) = true
is_awaiting (Some Level) = false
is_awaiting (Some Past) = false

-- a message came to the object of a seat: one that waits and awaited it can run now, and any other stands as before
abbrev pub woken : Plan → NodeState → ℕ → EntryId → Option ℕ → List Readiness → List Readiness
woken p n k entry None seats = seats
woken p n k entry (Some i) seats = if is_awaiting (slice_get seats i) && awaits_by p k entry (slice_get (objects_of n.body) i) then slice_set seats i Ready else seats

abbrev pub marked_by : Plan → ℕ → NodeState → Reach → List Readiness → List Readiness
marked_by p top n Nobody seats = seats
marked_by p top n (Message own to k entry) seats = if own then woken p n k entry (seat_of n.roster to.0) seats else seats
marked_by p top n Everybody seats = seats_of p top n

-- a node is fit for the plan after a letter
abbrev pub FitsAfter : Setting → Letter → NodeState → Type 0
FitsAfter s letter n = Fitted s.plan (node_heard s.plan s.script s.place letter n).node

-- The first letter is a message for an element, and the node heard it; the letter still lies in front.
pub record ParcelHeard (s : Setting) (box : List Letter) (n : NodeState) (kept : List Readiness) (after : NodeState) (seats : List Readiness) : Type 0 where
  pub letter : Letter
  pub first : box ≡ letter ∷ drop 1 box
  pub heard : record { node = after; out = [] } ≡ node_heard s.plan s.script s.place letter n
  pub marked : (top : ℕ) → seats ≡ marked_by s.plan top after (reach_of n.last.stamp letter) kept
  -- such a letter is no order
  pub back : (back : Option ℕ) → back_after letter back ≡ back
  pub since : (since : Since) → since_after letter since ≡ since

abbrev pub is_able : Readiness → Bool
is_able Behind = true
is_able Ready = true
is_able Awaits = false
is_able Level = false
is_able Past = false

-- the place of the first that can run; the first of these has number i
abbrev pub first_able : ℕ → List Readiness → Option ℕ
first_able i [] = None
first_able i (r ∷ more) = if is_able r then Some i else first_able (suc i) more

abbrev pub is_behind : Readiness → Bool
is_behind Behind = true
is_behind Ready = false
is_behind Awaits = false
is_behind Level = false
is_behind Past = false

abbrev pub is_level : Readiness → Bool
is_level Behind = false
is_level Ready = false
is_level Awaits = false
is_level Level = true
is_level Past = false

-- how many are so
abbrev pub count : (Readiness → Bool) → List Readiness → ℕ
count is [] = 0
count is (r ∷ more) = (if is r then 1 else 0) + count is more

-- ---- what the calls of a slot ask

-- it has a place in the agreement, and its node is one of the plan
pub record Renews (p : Plan) (cut : CutState) (x : SlotState) : Type 0 where
  pub fits : Fitted p x.node
  pub roster : x.node.roster.iterations ≡ p.iterations
  pub slot : HasSlot cut x.node.slot

-- and what is kept of it is so: how its objects stand, and what it would do
pub record Fresh (p : Plan) (cut : CutState) (x : SlotState) : Type 0 where
  pub renews : Renews p cut x
  pub seats : x.seats ≡ seats_of p (stand cut x.node.slot).top x.node
  pub current : x.doing ≡ slot_doing p cut x

-- a doing that leaves the agreement as it is
abbrev pub is_work : Doing → Bool
is_work doings.Hear = true
is_work doings.Move = false
is_work (doings.Run e) = true

-- ---- which events can happen

abbrev pub can_run_on : Plan → CutState → ElementId → Option SlotState → Bool
can_run_on p cut e None = false
can_run_on p cut e (Some x) = not (rests x.node) && is_none x.back && node_can_run p (stand cut x.node.slot).top x.node e.0

abbrev pub has_letter : List Letter → Bool
has_letter [] = false
has_letter (letter ∷ more) = true

abbrev pub can_hear : Option SlotState → Bool
can_hear None = false
can_hear (Some x) = has_letter x.box

abbrev pub can_move : Plan → CutState → Option SlotState → Bool
can_move p cut None = false
can_move p cut (Some x) = is_some (slot_move p cut x)

abbrev pub can_act : Plan → CutState → Doing → Option SlotState → Bool
can_act p cut doings.Hear x = can_hear x
can_act p cut doings.Move x = can_move p cut x
can_act p cut (doings.Run e) x = can_run_on p cut e x

abbrev pub event_due : Plan → ℕ → WorldState → Event → Bool
event_due p nodes w (events.Run slot e) = can_act p w.cut (doings.Run e) (slot_at nodes w.posts.slots slot)
event_due p nodes w (events.Hear slot) = can_act p w.cut doings.Hear (slot_at nodes w.posts.slots slot)
event_due p nodes w (events.Move slot) = can_act p w.cut doings.Move (slot_at nodes w.posts.slots slot)
event_due p nodes w events.ConductorHear = has_letter w.posts.desk
event_due p nodes w events.ConductorMove = conductor_due w

-- Whether an event can happen: more of them may than the one that its actor would make. None can once the run has ended.
unfoldable pub is_enabled : Plan → ℕ → WorldState → Event → Bool
is_enabled p nodes w event = if is_some w.conductor.outcome then false else event_due p nodes w event
