-- A slot's node, and what each event makes of it.
use Rattle.std.specs.Prelude.{ℕ, ℤ, Bool, true, false, ◌==◌, ◌&&◌, ◌||◌, not, if◌then◌else◌, List, [], ◌∷◌, ◌++◌, length, is_none, is_some, nat_lt, map, min, nat_le, slice_get, slice_index_or, slice_set, Option, Some, None}
use Rattle.std.specs.List.{filter, list_all}
use Rattle.chare_base.specs.declared.message.EntryId.{EntryId}
use Rattle.chare_base.specs.declared.message.Payload.{Payload}
use Rattle.chare_base.specs.declared.message.Port.TheVariants as ports
use Rattle.chare_base.specs.declared.message.ReductionId.{ReductionId}
use Rattle.chare_base.specs.declared.plan.ElementId.{ElementId}
use Rattle.chare_base.specs.declared.plan.Plan.{Plan}
use Rattle.chare_base.specs.declared.plan.Reduction.{Reduction}
use Rattle.chare_base.specs.declared.plan.Spot.{Spot}
use Rattle.chare_base.specs.declared.slots.LineSet.{LineSet}
use Rattle.chare_base.specs.declared.slots.SlotId.{SlotId}
use Rattle.chare_base.specs.Elements.{place_of}
use Rattle.chare_base.specs.Entries.{reduction_of}
use Rattle.chare_base.specs.Flip.{Flip}
use Rattle.chare_base.specs.Placing.{members}
use Rattle.chare_eval.specs.declared.effects.Outgoing.{Outgoing}
use Rattle.chare_eval.specs.declared.effects.Outgoing.TheVariants as outgoing
use Rattle.chare_eval.specs.Stage.{one_value}
use Rattle.fault_script.specs.declared.fault.Fault.{Fault}
use Rattle.ref_messages.specs.declared.key.RefKey.{RefKey}
use Rattle.object_steps.specs.Objects.{Progress, awaits, key_of}
use Rattle.letter_post.specs.declared.letter.BoxId.TheVariants as boxes
use Rattle.letter_post.specs.declared.letter.Letter.{Letter}
use Rattle.letter_post.specs.declared.letter.Letter.TheVariants as letters
use Rattle.letter_post.specs.declared.letter.Sent.{Sent}
use Rattle.letter_post.specs.declared.order.LastOrder.{LastOrder}
use Rattle.letter_post.specs.declared.stamp.Stamp.{Stamp}
use Rattle.letter_post.specs.Orders.{Order, next_by, order_of, stamp_in}
use Rattle.letter_post.specs.Orders as orders
use Rattle.letter_post.specs.Stamps.{lines_of, same_stamp}
use Rattle.buddy_compare.specs.Comparing.{verdict_of}
use Rattle.pup_state.specs.declared.piece.Piece.{Piece}
use Rattle.pup_state.specs.Spelling.{record_spelling}
use Rattle.node_core.specs.declared.piece.Held.{Held}
use Rattle.node_core.specs.declared.piece.Loan.{Loan}
use Rattle.node_core.specs.declared.turn.Sender.{Sender}
use Rattle.node_core.specs.declared.turn.Turn.{Turn}
use Rattle.node_core.specs.declared.turn.Turn.TheVariants as turns
use Rattle.node_core.specs.declared.turn.TurnKind.{TurnKind}
use Rattle.node_core.specs.declared.turn.TurnKind.TheVariants as kinds
use Rattle.node_core.specs.Gatherings.{Gathering, Tallied, tallied}
use Rattle.node_core.specs.Loads.{loaded}
use Rattle.node_core.specs.Rosters.{Roster, count_of, number_in, rank_of, seat_of, sharers_of}
use Rattle.node_core.specs.Turns.{Turned, begins, can_run, is_at, takes, turned}

-- a live node
pub record Body : Type 0 where
  -- its elements' objects, in element order
  pub objects : List Progress
  -- the contributions of its own elements, by reduction and iteration
  pub gatherings : List Gathering
  -- at node 0, what the elements of each node contributed
  pub totals : List Gathering
  -- its own piece of the base checkpoint
  pub base : Piece
  -- its own piece of the checkpoint that is being taken
  pub fresh : Option Piece
  -- its buddy's
  pub other : Option Held
  -- the fault lines that aren't spent
  pub live : LineSet
  -- the copy that the conductor waits for
  pub loan : Option Loan
  -- whether it waits for Resume
  pub waits : Bool

pub record NodeState : Type 0 where
  pub slot : SlotId
  -- the last order, or the opening
  pub last : LastOrder
  pub roster : Roster
  -- None where the node is spent
  pub body : Option Body
  -- whether memory ran out: then it is of no further use
  pub over : Bool

-- a node from its parts
abbrev pub node_from : SlotId → LastOrder → Roster → Bool → Option Body → NodeState
node_from slot last roster over body = record { slot = slot; last = last; roster = roster; body = body; over = over }

-- a node after an event, and the letters that it sent
pub record Outcome : Type 0 where
  pub node : NodeState
  pub out : List Sent

-- a node after a turn
pub record Answer : Type 0 where
  pub node : NodeState
  pub turn : Turn

abbrev pub out_of : Turn → List Sent
out_of (turns.Ran element spot outbox) = outbox
out_of turns.Held = []
out_of turns.Awaits = []
out_of (turns.Dies line) = []

abbrev pub outcome_of : Answer → Outcome
outcome_of a = record { node = a.node; out = out_of a.turn }

abbrev pub with_body : NodeState → Body → NodeState
with_body n b = record { slot = n.slot; last = n.last; roster = n.roster; body = Some b; over = n.over }

-- a live node after an event, and the letters that it sent
pub record Heard : Type 0 where
  pub body : Body
  pub out : List Sent

abbrev pub with_heard : NodeState → Heard → Outcome
with_heard n h = record { node = with_body n h.body; out = h.out }

abbrev pub stamp_of : NodeState → Stamp
stamp_of n = n.last.stamp

-- ---- what an element sends

-- the node of an element
abbrev pub node_at : List ℕ → ℕ → ℕ
node_at place e = slice_index_or place e 0

abbrev pub to_slot : ℕ → ℕ → Letter → Sent
to_slot replica node letter = record { to = boxes.Slot (record { replica = replica; node = node }); letter = letter }

abbrev pub parcel_of : List ℕ → Sender → EntryId → ElementId → Payload → Sent
parcel_of place s entry to payload = to_slot s.slot.replica (node_at place to.0) (letters.Parcel s.stamp entry s.iteration to payload)

-- once no contribution of the node's elements is missing, what they make goes to node 0
abbrev pub partial_sent : Sender → ReductionId → Option ℤ → List Sent
partial_sent s r None = []
partial_sent s r (Some value) = to_slot s.slot.replica 0 (letters.Partial s.stamp r s.iteration s.slot.node value) ∷ []

-- what the node gathers, and what it sent
pub record Passing : Type 0 where
  pub gatherings : List Gathering
  pub out : List Sent

abbrev pub with_tallied : Sender → ReductionId → Passing → Tallied → Passing
with_tallied s r on t = record { gatherings = t.gatherings; out = on.out ++ partial_sent s r t.total }

-- the contribution of an element of the reduction's array
abbrev pub contributed_to : Roster → Sender → ReductionId → ℤ → Passing → Option Reduction → Passing
contributed_to roster s r value on None = on
contributed_to roster s r value on (Some x) = if x.owner == s.array then with_tallied s r on (tallied x.how (count_of roster x.owner) s.rank r s.iteration value on.gatherings) else on

-- what an element sends goes out as a letter; what it contributes is gathered
abbrev pub passed_one : Plan → List ℕ → Roster → Sender → Outgoing → Passing → Passing
passed_one p place roster s (outgoing.Parcel entry to payload) on = record { gatherings = on.gatherings; out = on.out ++ parcel_of place s entry to payload ∷ [] }
passed_one p place roster s (outgoing.Contribution r value) on = contributed_to roster s r value on (reduction_of p r.0)

-- one after another, in the order in which they were sent
abbrev pub passed : Plan → List ℕ → Roster → Sender → List Outgoing → Passing → Passing
passed p place roster s [] on = on
passed p place roster s (m ∷ more) on = passed p place roster s more (passed_one p place roster s m on)

-- ---- a turn

-- why no part ran
abbrev pub idle_of : Bool → Turn
idle_of before = if before then turns.Held else turns.Awaits

abbrev pub turn_of : ElementId → Bool → Option Spot → List Sent → Turn
turn_of e before None out = idle_of before
turn_of e before (Some spot) out = turns.Ran e spot out

-- a turn of this kind; letters go out only where a part ran
abbrev pub turn_with : TurnKind → List Sent → Turn
turn_with (kinds.Ran e spot) out = turns.Ran e spot out
turn_with kinds.Held out = turns.Held
turn_with kinds.Awaits out = turns.Awaits
turn_with (kinds.Dies line) out = turns.Dies line

-- a live node after a turn
pub record Ran : Type 0 where
  pub body : Body
  pub turn : Turn

abbrev pub with_objects : Body → List Progress → List Gathering → Body
with_objects b objects gatherings = record b { objects = objects; gatherings = gatherings }

-- the object of number i after a turn, its contributions gathered and its letters sent
abbrev pub body_after : Plan → Body → ℕ → Progress → Turned → Passing → Ran
body_after p b i o t on = record {
  body = with_objects b (slice_set b.objects i t.object) on.gatherings;
  turn = turn_of o.element (begins p.iterations o) t.spot on.out;
}

abbrev pub sender_of : Plan → SlotId → Stamp → Roster → ℕ → Progress → Sender
sender_of p slot stamp roster i o = record { slot = slot; stamp = stamp; iteration = o.done; array = (place_of p o.element.0).array; rank = rank_of roster i }

abbrev pub body_turned : Plan → List ℕ → SlotId → Stamp → Roster → Body → ℕ → Progress → Turned → Ran
body_turned p place slot stamp roster b i o t = body_after p b i o t (passed p place roster (sender_of p slot stamp roster i o) t.sent (record { gatherings = b.gatherings; out = [] }))

abbrev pub stands : Body → Ran
stands b = record { body = b; turn = turns.Awaits }

abbrev pub body_ran_by : Plan → List Flip → List ℕ → ℕ → SlotId → Stamp → Roster → Body → ℕ → Option Progress → Ran
body_ran_by p lines place limit slot stamp roster b i None = stands b
body_ran_by p lines place limit slot stamp roster b i (Some o) = body_turned p place slot stamp roster b i o (turned p lines limit o)

abbrev pub body_ran_at : Plan → List Flip → List ℕ → ℕ → SlotId → Stamp → Roster → Body → Option ℕ → Ran
body_ran_at p lines place limit slot stamp roster b None = stands b
body_ran_at p lines place limit slot stamp roster b (Some i) = body_ran_by p lines place limit slot stamp roster b i (slice_get b.objects i)

-- one turn of an element of a live node, which runs nothing while it waits for Resume
unfoldable pub body_ran : Plan → List Flip → List ℕ → ℕ → ℕ → SlotId → Stamp → Roster → Body → Ran
body_ran p lines place limit e slot stamp roster b = if b.waits then stands b else body_ran_at p lines place limit slot stamp roster b (seat_of roster e)

abbrev pub with_ran : NodeState → Ran → Answer
with_ran n r = record { node = with_body n r.body; turn = r.turn }

abbrev pub node_ran_by : Plan → List Fault → List ℕ → ℕ → ℕ → NodeState → Option Body → Answer
node_ran_by p script place limit e n None = record { node = n; turn = turns.Awaits }
node_ran_by p script place limit e n (Some b) = with_ran n (body_ran p (lines_of script n.last.stamp) place limit e n.slot n.last.stamp n.roster b)

-- A node runs one ready part of an element, or begins an iteration of it below a limit.
unfoldable pub node_ran : Plan → List Fault → List ℕ → ℕ → ℕ → NodeState → Answer
node_ran p script place limit e n = node_ran_by p script place limit e n n.body

-- ---- who can run

-- the element of an object, if there is one
abbrev pub element_in : Option Progress → Option ElementId
element_in None = None
element_in (Some o) = Some o.element

-- the first of these that can run
abbrev pub first_running_of : Plan → ℕ → List Progress → Option ElementId
first_running_of p limit [] = None
first_running_of p limit (o ∷ more) = if can_run p limit o then Some o.element else first_running_of p limit more

-- the elements that may run: none while a node waits for Resume, none of a spent one
abbrev pub awake : Option Body → List Progress
awake None = []
awake (Some b) = if b.waits then [] else b.objects

unfoldable pub first_running : Plan → ℕ → NodeState → Option ElementId
first_running p limit n = first_running_of p limit (awake n.body)

abbrev pub rests_by : Option Body → Bool
rests_by None = true
rests_by (Some b) = b.waits

-- it is spent, or waits for Resume
abbrev pub rests : NodeState → Bool
rests n = rests_by n.body

abbrev pub seated_in : List Progress → Option ℕ → Option Progress
seated_in objects None = None
seated_in objects (Some i) = slice_get objects i

-- an element's object
abbrev pub object_of : NodeState → ℕ → Option Body → Option Progress
object_of n e None = None
object_of n e (Some b) = seated_in b.objects (seat_of n.roster e)

abbrev pub can_run_by : Plan → ℕ → Option Progress → Bool
can_run_by p limit None = false
can_run_by p limit (Some o) = can_run p limit o

-- whether an object awaits the message of this entry in iteration k; false where there is none
abbrev pub awaits_by : Plan → ℕ → EntryId → Option Progress → Bool
awaits_by p k entry None = false
awaits_by p k entry (Some o) = awaits p o k entry.0

-- the iterations that an object has completed, where it is between two
abbrev pub completed_by : Option Progress → Option ℕ
completed_by None = None
completed_by (Some o) = if is_none o.step then Some o.done else None

unfoldable pub node_can_run : Plan → ℕ → NodeState → ℕ → Bool
node_can_run p limit n e = can_run_by p limit (object_of n e n.body)

abbrev pub lesser : Option ℕ → ℕ → Option ℕ
lesser None k = Some k
lesser (Some l) k = Some (min l k)

-- the least of the iterations that one of these would begin
abbrev pub next_begin_of : ℕ → Option ℕ → List Progress → Option ℕ
next_begin_of iterations least [] = least
next_begin_of iterations least (o ∷ more) = next_begin_of iterations (if begins iterations o then lesser least o.done else least) more

abbrev pub objects_of : Option Body → List Progress
objects_of None = []
objects_of (Some b) = b.objects

unfoldable pub next_begin : NodeState → Option ℕ
next_begin n = next_begin_of n.roster.iterations None (objects_of n.body)

-- A turn of the least element that can run.
abbrev pub node_turned_by : Plan → List Fault → List ℕ → ℕ → NodeState → Option ElementId → Answer
node_turned_by p script place limit n None = record { node = n; turn = idle_of (is_some (next_begin n)) }
node_turned_by p script place limit n (Some e) = node_ran p script place limit e.0 n

unfoldable pub node_turned : Plan → List Fault → List ℕ → ℕ → NodeState → Answer
node_turned p script place limit n = node_turned_by p script place limit n (first_running p limit n)

-- ---- pieces

-- the objects' records, one after another
abbrev pub objects_records : Plan → ℕ → List Progress → List ℕ
objects_records p k [] = []
objects_records p k (o ∷ more) = record_spelling p o.element.0 k o.cells ++ objects_records p k more

abbrev pub piece_of : Plan → ℕ → ℕ → List Progress → Piece
piece_of p k node objects = record { node = node; iteration = k; bytes = objects_records p k objects }

abbrev pub verdict_sent : Plan → Stamp → Piece → Held → Sent
verdict_sent p own mine held = record {
  to = boxes.Conductor;
  letter = letters.VerdictOf own held.stamp mine.node mine.iteration (verdict_of p mine.bytes held.piece.bytes) mine;
}

-- what the comparison of its own piece with the buddy's says, where both are there
abbrev pub compared : Plan → Stamp → Option Piece → Option Held → List Sent
compared p own None held = []
compared p own (Some mine) None = []
compared p own (Some mine) (Some held) = if mine.iteration == held.piece.iteration then verdict_sent p own mine held ∷ [] else []

-- replica 1's goes to its buddy, replica 0's is compared
abbrev pub pack_sends : Plan → SlotId → Stamp → Piece → Option Held → List Sent
pack_sends p slot stamp piece other =
    if slot.replica == 1 then to_slot 0 slot.node (letters.Piece stamp piece) ∷ [] else compared p stamp (Some piece) other

-- every element has completed k iterations, and none has begun the next
abbrev pub all_at_of : ℕ → List Progress → Bool
all_at_of k all = list_all (is_at k) all

abbrev pub all_at_by : ℕ → Option Body → Bool
all_at_by k None = false
all_at_by k (Some b) = all_at_of k b.objects

unfoldable pub all_at : ℕ → NodeState → Bool
all_at k n = all_at_by k n.body

abbrev pub has_packed_by : Option Body → Bool
has_packed_by None = false
has_packed_by (Some b) = is_some b.fresh

unfoldable pub has_packed : NodeState → Bool
has_packed n = has_packed_by n.body

abbrev pub silent : NodeState → Outcome
silent n = record { node = n; out = [] }

abbrev pub with_fresh : Body → Piece → Body
with_fresh b piece = record b { fresh = Some piece }

abbrev pub body_packed : Plan → SlotId → Stamp → Body → Piece → Heard
body_packed p slot stamp b piece = record { body = with_fresh b piece; out = pack_sends p slot stamp piece b.other }

abbrev pub node_packed_by : Plan → List Fault → ℕ → NodeState → Option Body → Outcome
node_packed_by p script k n None = silent n
node_packed_by p script k n (Some b) = with_heard n (body_packed p n.slot n.last.stamp b (piece_of p k n.slot.node b.objects))

-- A node packs.
unfoldable pub node_packed : Plan → List Fault → ℕ → NodeState → Outcome
node_packed p script k n = node_packed_by p script k n n.body

-- ---- letters

abbrev pub unmoved : Body → Heard
unmoved b = record { body = b; out = [] }

abbrev pub with_mail : Body → List Progress → Heard
with_mail b objects = record { body = with_objects b objects b.gatherings; out = [] }

-- a message comes to the object of number i
abbrev pub taken_by : ℕ → EntryId → Payload → List Progress → ℕ → Option Progress → List Progress
taken_by k entry payload all i None = all
taken_by k entry payload all i (Some o) = slice_set all i (takes o (key_of k (ports.Entry entry)) payload)

abbrev pub taken_at : ℕ → EntryId → Payload → List Progress → Option ℕ → List Progress
taken_at k entry payload all None = all
taken_at k entry payload all (Some i) = taken_by k entry payload all i (slice_get all i)

abbrev pub parcel_heard : Roster → ℕ → EntryId → ElementId → Payload → Body → Heard
parcel_heard roster k entry to payload b = with_mail b (taken_at k entry payload b.objects (seat_of roster to.0))

-- a message comes to an element of an array
abbrev pub taken_in : Plan → ℕ → RefKey → Payload → Progress → Progress
taken_in p array key payload o = if (place_of p o.element.0).array == array then takes o key payload else o

-- a total comes to an element of the reduction's array
abbrev pub total_taken : Plan → ℕ → ReductionId → ℤ → ℕ → Progress → Progress
total_taken p k r value array o = taken_in p array (key_of k (ports.Total r)) (one_value value) o

abbrev pub total_heard : Plan → ℕ → ReductionId → ℤ → Body → Option Reduction → Heard
total_heard p k r value b None = unmoved b
total_heard p k r value b (Some x) = with_mail b (map (total_taken p k r value x.owner) b.objects)

-- once no node's share is missing, the total goes to each node that has elements of the array
abbrev pub total_to : ℕ → Stamp → ReductionId → ℕ → ℤ → ℕ → Sent
total_to replica stamp r k value j = to_slot replica j (letters.Total stamp r k value)

abbrev pub total_sent : ℕ → Stamp → ReductionId → ℕ → List ℕ → Option ℤ → List Sent
total_sent replica stamp r k sharers None = []
total_sent replica stamp r k sharers (Some value) = map (total_to replica stamp r k value) sharers

abbrev pub with_totals : Body → List Gathering → Body
with_totals b totals = record b { totals = totals }

abbrev pub share_tallied : ℕ → Stamp → ReductionId → ℕ → List ℕ → Body → Tallied → Heard
share_tallied replica stamp r k sharers b t = record { body = with_totals b t.gatherings; out = total_sent replica stamp r k sharers t.total }

abbrev pub share_heard : ℕ → Stamp → ReductionId → ℕ → ℤ → Reduction → List ℕ → Body → Option ℕ → Heard
share_heard replica stamp r k value x sharers b None = unmoved b
share_heard replica stamp r k value x sharers b (Some rank) = share_tallied replica stamp r k sharers b (tallied x.how (length sharers) rank r k value b.totals)

-- a node's share comes to node 0
abbrev pub partial_heard : Roster → ℕ → Stamp → ReductionId → ℕ → ℕ → ℤ → Body → Option Reduction → Heard
partial_heard roster replica stamp r k node value b None = unmoved b
partial_heard roster replica stamp r k node value b (Some x) =
    share_heard replica stamp r k value x (sharers_of roster x.owner) b (number_in 0 (sharers_of roster x.owner) node)

-- a buddy's piece takes the place of none, of one of an older epoch, and of one at another iteration
abbrev pub is_new : Stamp → Piece → Option Held → Bool
is_new stamp piece None = true
is_new stamp piece (Some held) = nat_lt held.stamp.epoch stamp.epoch || not (held.piece.iteration == piece.iteration)

abbrev pub with_other : Body → Held → Body
with_other b held = record b { other = Some held }

abbrev pub piece_kept : Plan → Stamp → Body → Held → Heard
piece_kept p own b held = record { body = with_other b held; out = compared p own b.fresh (Some held) }

-- the buddy's piece is kept, and compared where its own is there
abbrev pub piece_heard : Plan → Stamp → ℕ → Stamp → Piece → Body → Heard
piece_heard p own node stamp piece b =
    if piece.node == node && is_new stamp piece b.other then piece_kept p own b (record { stamp = stamp; piece = piece }) else unmoved b

-- Messages, shares and totals count where the whole stamp is the node's own. Orders are obeyed elsewhere.
abbrev pub body_heard : Plan → List Fault → List ℕ → SlotId → Stamp → Roster → Body → Letter → Heard
body_heard p script place slot own roster b (letters.Parcel stamp entry k to payload) = if same_stamp stamp own then parcel_heard roster k entry to payload b else unmoved b
body_heard p script place slot own roster b (letters.Partial stamp r k node value) =
    if same_stamp stamp own then partial_heard roster slot.replica own r k node value b (reduction_of p r.0) else unmoved b
body_heard p script place slot own roster b (letters.Total stamp r k value) = if same_stamp stamp own then total_heard p k r value b (reduction_of p r.0) else unmoved b
body_heard p script place slot own roster b (letters.Piece stamp piece) = piece_heard p own slot.node stamp piece b
body_heard p script place slot own roster b (letters.VerdictOf first second node k verdict piece) = unmoved b
body_heard p script place slot own roster b (letters.Lend k fresh) = unmoved b
body_heard p script place slot own roster b (letters.Take stamp k live piece) = unmoved b
body_heard p script place slot own roster b (letters.Restore stamp k live) = unmoved b
body_heard p script place slot own roster b (letters.Commit stamp k live) = unmoved b
body_heard p script place slot own roster b (letters.Resume stamp) = unmoved b
body_heard p script place slot own roster b (letters.Died stamp dead line) = unmoved b
body_heard p script place slot own roster b letters.Stop = unmoved b

-- a spent node drops what it hears
abbrev pub node_heard_by : Plan → List Fault → List ℕ → Letter → NodeState → Option Body → Outcome
node_heard_by p script place letter n None = silent n
node_heard_by p script place letter n (Some b) = with_heard n (body_heard p script place n.slot n.last.stamp n.roster b letter)

-- ---- orders

-- what an order leaves of a slot's node, None where it is spent, and the letters that were sent
pub record Obeyed : Type 0 where
  pub body : Option Body
  pub out : List Sent

abbrev pub quietly : Option Body → Obeyed
quietly body = record { body = body; out = [] }

-- a node at a piece, which is its base, and waits for Resume
abbrev pub begun_with : Piece → Option Held → LineSet → List Progress → Body
begun_with base other live objects = record {
  objects = objects;
  gatherings = [];
  totals = [];
  base = base;
  fresh = None;
  other = other;
  live = live;
  loan = None;
  waits = true;
}

-- its elements are read out of the piece's bytes; a piece that can't be read leaves none
abbrev pub begun_by : Piece → Option Held → LineSet → Option (List Progress) → Option Body
begun_by base other live None = None
begun_by base other live (Some objects) = Some (begun_with base other live objects)

abbrev pub begun_at : Plan → List ℕ → ℕ → LineSet → Piece → Option Held → Option Body
begun_at p place k live base other = if base.iteration == k then begun_by base other live (loaded p (members place base.node) base.iteration base.bytes) else None

-- back at its base, with its buddy's piece
abbrev pub restored : Plan → List ℕ → ℕ → LineSet → Option Body → Option Body
restored p place k live None = None
restored p place k live (Some b) = begun_at p place k live b.base b.other

-- at a piece that came
abbrev pub taken_up : Plan → List ℕ → ℕ → ℕ → LineSet → Piece → Option Body
taken_up p place j k live piece = if piece.node == j then begun_at p place k live piece None else None

-- of an iteration or later
abbrev pub is_from : ℕ → Gathering → Bool
is_from k g = nat_le k g.iteration

-- The fresh piece is its base. What it gathers of iterations before is over.
abbrev pub with_base : ℕ → LineSet → Body → Piece → Body
with_base k live b piece = record {
  objects = b.objects;
  gatherings = filter (is_from k) b.gatherings;
  totals = filter (is_from k) b.totals;
  base = piece;
  fresh = None;
  other = b.other;
  live = live;
  loan = None;
  waits = true;
}

abbrev pub committed_with : ℕ → LineSet → Body → Option Piece → Option Body
committed_with k live b None = None
committed_with k live b (Some piece) = if piece.iteration == k && all_at_of k b.objects then Some (with_base k live b piece) else None

-- at its fresh piece, where all its elements are where it packed
abbrev pub committed : ℕ → LineSet → Option Body → Option Body
committed k live None = None
committed k live (Some b) = committed_with k live b b.fresh

abbrev pub awakened : Body → Body
awakened b = record b { waits = false }

-- replica 1 sends a piece that it holds fresh to its buddy again
abbrev pub sent_again : SlotId → Stamp → Option Piece → List Sent
sent_again slot stamp None = []
sent_again slot stamp (Some piece) = if slot.replica == 1 then to_slot 0 slot.node (letters.Piece stamp piece) ∷ [] else []

abbrev pub resumed : SlotId → Stamp → Option Body → Obeyed
resumed slot stamp None = quietly None
resumed slot stamp (Some b) = record { body = Some (awakened b); out = sent_again slot stamp b.fresh }

abbrev pub obeyed_by : Plan → List ℕ → SlotId → Stamp → Option Body → Order → Obeyed
obeyed_by p place slot own body (orders.Restore stamp k live) = quietly (restored p place k live body)
obeyed_by p place slot own body (orders.Commit stamp k live) = quietly (committed k live body)
obeyed_by p place slot own body (orders.Resume stamp) = resumed slot own body
obeyed_by p place slot own body (orders.Take stamp k live piece) = quietly (taken_up p place slot.node k live piece)

-- an order to the other replica leaves no node
abbrev pub obeyed : Plan → List ℕ → SlotId → Stamp → Option Body → Order → Obeyed
obeyed p place slot own body order = if (stamp_in order).replica == slot.replica then obeyed_by p place slot own body order else quietly None

-- no order leaves all as it is
abbrev pub obeyed_as : Plan → List ℕ → SlotId → Stamp → Option Body → Option Order → Obeyed
obeyed_as p place slot own body None = quietly body
obeyed_as p place slot own body (Some order) = obeyed p place slot own body order

abbrev pub with_obeyed : NodeState → LastOrder → Obeyed → Outcome
with_obeyed n last o = record { node = node_from n.slot last n.roster n.over o.body; out = o.out }

-- What is no order is mail.
abbrev pub node_heard_as : Plan → List Fault → List ℕ → Letter → NodeState → Option Order → Outcome
node_heard_as p script place letter n None = node_heard_by p script place letter n n.body
node_heard_as p script place letter n (Some order) = with_obeyed n (next_by n.last (Some order)) (obeyed p place n.slot n.last.stamp n.body order)

-- A node hears a letter.
unfoldable pub node_heard : Plan → List Fault → List ℕ → Letter → NodeState → Outcome
node_heard p script place letter n = node_heard_as p script place letter n (order_of letter)
