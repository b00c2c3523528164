-- The world: all slots with their inboxes, the agreement, the conductor with its own inbox, and what each event makes of it.
use Rattle.std.specs.Prelude.{ℕ, zero, suc, ◌+◌, ◌-◌, ◌*◌, ◌/◌, ◌%◌, ◌^◌, Bool, true, false, not, ◌==◌, ◌&&◌, ◌||◌, nat_lt, nat_le, is_some, if◌then◌else◌, List, [], ◌∷◌, ◌++◌, length, map, option_map, slice_get, slice_set, Option, Some, None}
use Rattle.chare_base.specs.declared.plan.ElementId.{ElementId}
use Rattle.chare_base.specs.declared.options.Options.{Options}
use Rattle.chare_base.specs.declared.plan.Plan.{Plan}
use Rattle.chare_base.specs.declared.slots.LineSet.{LineSet}
use Rattle.chare_base.specs.declared.slots.SlotId.{SlotId}
use Rattle.fault_script.specs.declared.fault.Fault.{Fault}
use Rattle.iteration_agree.specs.Cuts.{CutState, agreed, agreement, begun_by, noted, opened, opening_cut, packed_by, quieted, released_by, reported_by, rewound_by, seen_by, slot_of}
use Rattle.iteration_agree.specs.Rounds.{number}
use Rattle.iteration_agree.specs.Slots.{sight_of, standing_of}
use Rattle.iteration_agree.specs.Under.{MayBegin, MayPack, MayRelease, MayReport, MayRewind}
use Rattle.iteration_agree.specs.declared.round.Taking.{Taking}
use Rattle.iteration_agree.specs.declared.round.Taking.TheVariants as takings
use Rattle.iteration_agree.specs.declared.slot.Slot.{Slot}
use Rattle.iteration_agree.specs.declared.round.Round.{Round}
use Rattle.iteration_agree.specs.declared.round.Round.TheVariants.{Quiet, Gather, Agreed}
use Rattle.iteration_agree.specs.declared.round.Sight.{Sight}
use Rattle.iteration_agree.specs.declared.round.Standing.{Standing}
use Rattle.letter_post.specs.declared.letter.BoxId.{BoxId}
use Rattle.letter_post.specs.declared.letter.BoxId.TheVariants as boxes
use Rattle.letter_post.specs.declared.letter.Letter.{Letter}
use Rattle.letter_post.specs.declared.letter.Letter.TheVariants as letters
use Rattle.letter_post.specs.declared.letter.Sent.{Sent}
use Rattle.node_core.specs.Nodes.{NodeState, Outcome, first_running, node_heard, node_packed, node_ran, objects_of, outcome_of}
use Rattle.node_core.specs.Turns.{begins, can_run}
use Rattle.object_steps.specs.Objects.{Progress}
use Rattle.node_core.specs.Starts.{start_state}
use Rattle.conductor_core.specs.Conductors.{ConductorState, Heard, conductor_did, conductor_heard, wanted, start_conductor}
use Rattle.conductor_core.specs.Conductors.{sight_of as last_sight}
use Rattle.conductor_core.specs.declared.wants.CutAnswer.TheVariants as answers
use Rattle.conductor_core.specs.declared.wants.CutMove.{CutMove}
use Rattle.conductor_core.specs.declared.wants.CutMove.TheVariants as moves
use Rattle.conductor_core.specs.Openings.{all_lines}
use Rattle.world_core.specs.declared.doing.Doing.{Doing}
use Rattle.world_core.specs.declared.doing.Doing.TheVariants as doings
use Rattle.world_core.specs.declared.doing.Readiness.{Readiness}
use Rattle.world_core.specs.declared.doing.Readiness.TheVariants.{Behind, Ready, Awaits, Level, Past}
use Rattle.world_core.specs.declared.doing.SlotMove.{SlotMove}
use Rattle.world_core.specs.declared.doing.SlotMove.TheVariants as slot_moves
use Rattle.world_core.specs.declared.doing.Since.{Since}
use Rattle.world_core.specs.declared.doing.Since.TheVariants.{Nothing, Ordered, Resumed}
use Rattle.world_core.specs.declared.event.Actor.{Actor}
use Rattle.world_core.specs.declared.event.Actor.TheVariants as actors
use Rattle.world_core.specs.declared.event.Chooser.{Chooser}
use Rattle.world_core.specs.declared.event.Chooser.TheVariants as choosers
use Rattle.world_core.specs.declared.event.Event.{Event}
use Rattle.world_core.specs.declared.event.Event.TheVariants as events
use Rattle.world_core.specs.Moves.{move_of}

-- What a run is of: a plan, the faults of its script, the node of each element, and how many nodes a replica has.
pub record Setting : Type 0 where
  pub plan : Plan
  pub script : List Fault
  pub place : List ℕ
  pub nodes : ℕ

pub record SlotState : Type 0 where
  pub node : NodeState
  -- its inbox, the letter that came first in front
  pub box : List Letter
  -- the base to which it has to go back in the agreement: an order to go back was heard, and no rewind followed yet
  pub back : Option ℕ
  -- which orders it heard since it last packed
  pub since : Since
  -- how each of its node's objects stands to the slot's top, kept
  pub seats : List Readiness
  -- what it would do next, kept
  pub doing : Option Doing

-- the slots, replica 0's first, and the conductor's inbox
pub record Posts : Type 0 where
  pub slots : List SlotState
  pub desk : List Letter

pub record WorldState : Type 0 where
  pub posts : Posts
  pub cut : CutState
  pub conductor : ConductorState
  -- whether memory ran out: then it is of no further use
  pub over : Bool

-- ---- what a slot would do next

abbrev pub run_of : Option ElementId → Option Doing
run_of None = None
run_of (Some e) = Some (doings.Run e)

-- it runs the least element that can run, below its top; nothing while it has to go back
abbrev pub run_due : Plan → NodeState → Standing → Option ℕ → Option Doing
run_due p n t None = run_of (first_running p t.top n)
run_due p n t (Some base) = None

abbrev pub move_or_run : Option SlotMove → Option Doing → Option Doing
move_or_run (Some m) run = Some doings.Move
move_or_run None run = run

-- it moves before it runs
abbrev pub idle_doing : Plan → Round → NodeState → Standing → Option ℕ → Since → Option Doing
idle_doing p round n t back since = move_or_run (move_of p round n t back since) (run_due p n t back)

-- it hears before all else
abbrev pub doing_of : Plan → Round → Standing → NodeState → List Letter → Option ℕ → Since → Option Doing
doing_of p round t n [] back since = idle_doing p round n t back since
doing_of p round t n (letter ∷ more) back since = Some doings.Hear

-- how a slot stands in an agreement
abbrev pub stand : CutState → SlotId → Standing
stand cut slot = standing_of (slot_of cut slot)

-- how an object stands to a top: between two iterations, or inside one
abbrev pub between : Plan → ℕ → Progress → Readiness
between p top o = if begins p.iterations o && nat_lt o.done top then Behind else (if o.done == top then Level else Past)

abbrev pub readiness_in : Plan → ℕ → Progress → Option ℕ → Readiness
readiness_in p top o None = between p top o
readiness_in p top o (Some step) = if can_run p top o then Ready else Awaits

abbrev pub readiness : Plan → ℕ → Progress → Readiness
readiness p top o = readiness_in p top o o.step

-- of all objects of a node
abbrev pub seats_of : Plan → ℕ → NodeState → List Readiness
seats_of p top n = map (readiness p top) (objects_of n.body)

-- a slot with these parts, in this agreement
abbrev pub renewed : Plan → CutState → NodeState → List Letter → Option ℕ → Since → SlotState
renewed p cut n box back since = record {
  node = n;
  box = box;
  back = back;
  since = since;
  seats = seats_of p (stand cut n.slot).top n;
  doing = doing_of p cut.round (stand cut n.slot) n box back since;
}

-- the same slot, in another agreement
abbrev pub again : Plan → CutState → SlotState → SlotState
again p cut x = renewed p cut x.node x.box x.back x.since

-- ---- slots by their names

abbrev pub number_of : ℕ → SlotId → ℕ
number_of nodes slot = slot.replica * nodes + slot.node

-- this slot, where it has that name
abbrev pub named : SlotId → Option SlotState → Option SlotState
named slot None = None
named slot (Some x) = if x.node.slot.replica == slot.replica && x.node.slot.node == slot.node then Some x else None

abbrev pub slot_at : ℕ → List SlotState → SlotId → Option SlotState
slot_at nodes all slot = named slot (slice_get all (number_of nodes slot))

abbrev pub with_slot : ℕ → List SlotState → SlotId → SlotState → List SlotState
with_slot nodes all slot s = slice_set all (number_of nodes slot) s

-- ---- letters

-- a letter comes at the back, so the slot hears next
abbrev pub slot_put : Letter → SlotState → SlotState
slot_put letter x = record x { box = x.box ++ letter ∷ []; doing = Some doings.Hear }

abbrev pub put_by : ℕ → SlotId → Letter → Posts → Option SlotState → Posts
put_by nodes slot letter b None = b
put_by nodes slot letter b (Some s) = record b { slots = with_slot nodes b.slots slot (slot_put letter s) }

abbrev pub put_in : ℕ → BoxId → Letter → Posts → Posts
put_in nodes (boxes.Slot slot) letter b = put_by nodes slot letter b (slot_at nodes b.slots slot)
put_in nodes boxes.Conductor letter b = record b { desk = b.desk ++ letter ∷ [] }

-- letters sent, each at the back of its inbox
abbrev pub posted : ℕ → List Sent → Posts → Posts
posted nodes [] b = b
posted nodes (sent ∷ more) b = posted nodes more (put_in nodes sent.to sent.letter b)

-- ---- what an order makes of a slot's place in the agreement

abbrev pub back_after : Letter → Option ℕ → Option ℕ
back_after (letters.Parcel stamp entry k to payload) back = back
back_after (letters.Partial stamp r k node value) back = back
back_after (letters.Total stamp r k value) back = back
back_after (letters.Piece stamp piece) back = back
back_after (letters.VerdictOf first second node k verdict piece) back = back
back_after (letters.Lend k fresh) back = back
back_after (letters.Take stamp k live piece) back = Some k
back_after (letters.Restore stamp k live) back = Some k
back_after (letters.Commit stamp k live) back = back
back_after (letters.Resume stamp) back = back
back_after (letters.Died stamp dead line) back = back
back_after letters.Stop back = back

abbrev pub ordered_after : Since → Since
ordered_after Nothing = Ordered
ordered_after Ordered = Ordered
ordered_after Resumed = Resumed

abbrev pub resumed_after : Since → Since
resumed_after Nothing = Nothing
resumed_after Ordered = Resumed
resumed_after Resumed = Resumed

abbrev pub since_after : Letter → Since → Since
since_after (letters.Parcel stamp entry k to payload) since = since
since_after (letters.Partial stamp r k node value) since = since
since_after (letters.Total stamp r k value) since = since
since_after (letters.Piece stamp piece) since = since
since_after (letters.VerdictOf first second node k verdict piece) since = since
since_after (letters.Lend k fresh) since = since
since_after (letters.Take stamp k live piece) since = ordered_after since
since_after (letters.Restore stamp k live) since = ordered_after since
since_after (letters.Commit stamp k live) since = ordered_after since
since_after (letters.Resume stamp) since = resumed_after since
since_after (letters.Died stamp dead line) since = since
since_after letters.Stop since = since

-- ---- events of a slot

-- a slot after an event of its own, in the agreement after it, and what it sent
pub record Acted : Type 0 where
  pub slot : SlotState
  pub cut : CutState
  pub out : List Sent

abbrev pub after_slot : Setting → SlotId → Acted → WorldState → WorldState
after_slot s slot a w = record w {
  posts = posted s.nodes a.out (record { slots = with_slot s.nodes w.posts.slots slot a.slot; desk = w.posts.desk });
  cut = a.cut;
}

abbrev pub acted : Plan → CutState → Outcome → List Letter → Option ℕ → Since → Acted
acted p cut o box back since = record { slot = renewed p cut o.node box back since; cut = cut; out = o.out }

abbrev pub slot_ran_by : Setting → CutState → ElementId → SlotState → Option ℕ → Acted
slot_ran_by s cut e x None = acted s.plan cut (outcome_of (node_ran s.plan s.script s.place (stand cut x.node.slot).top e.0 x.node)) x.box x.back x.since
slot_ran_by s cut e x (Some base) = record { slot = x; cut = cut; out = [] }

-- it runs an element, below its top; nothing while it has to go back
abbrev pub slot_ran : Setting → CutState → ElementId → SlotState → Acted
slot_ran s cut e x = slot_ran_by s cut e x x.back

abbrev pub slot_heard : Setting → CutState → SlotState → List Letter → Acted
slot_heard s cut x [] = record { slot = x; cut = cut; out = [] }
slot_heard s cut x (letter ∷ more) = acted s.plan cut (node_heard s.plan s.script s.place letter x.node) more (back_after letter x.back) (since_after letter x.since)

-- ---- moves that leave the node as it is

abbrev pub shifted : SlotId → SlotMove → CutState → CutState
shifted slot slot_moves.See cut = seen_by slot cut
shifted slot (slot_moves.Rewind base) cut = rewound_by slot base cut
shifted slot slot_moves.Release cut = released_by slot cut
shifted slot slot_moves.Report cut = reported_by slot cut
shifted slot (slot_moves.Pack k) cut = cut
shifted slot (slot_moves.Begin k) cut = begun_by slot k cut

-- when the agreement takes such a move
abbrev pub MayMove : SlotMove → Slot → Type 0
MayMove slot_moves.See t = Unit {0}
MayMove (slot_moves.Rewind base) t = MayRewind base t
MayMove slot_moves.Release t = MayRelease t
MayMove slot_moves.Report t = MayReport t
MayMove (slot_moves.Pack k) t = MayPack t
MayMove (slot_moves.Begin k) t = MayBegin k t

-- it goes back once
abbrev pub back_by : SlotMove → Option ℕ → Option ℕ
back_by slot_moves.See back = back
back_by (slot_moves.Rewind base) back = None
back_by slot_moves.Release back = back
back_by slot_moves.Report back = back
back_by (slot_moves.Pack k) back = back
back_by (slot_moves.Begin k) back = back

abbrev pub with_back : Option ℕ → SlotState → SlotState
with_back back x = record x { back = back }

-- only the agreement moves
abbrev pub moved_in : Plan → SlotState → SlotMove → CutState → Acted
moved_in p x move cut = record {
  slot = again p (shifted x.node.slot move cut) (with_back (back_by move x.back) x);
  cut = shifted x.node.slot move cut;
  out = [];
}

-- it packs at an iteration, and what it heard of orders is forgotten
abbrev pub slot_packed : Setting → CutState → ℕ → SlotState → Acted
slot_packed s cut k x = acted s.plan (packed_by x.node.slot cut) (node_packed s.plan s.script k x.node) x.box x.back Nothing

abbrev pub slot_moved_by : Setting → CutState → SlotState → Option SlotMove → Acted
slot_moved_by s cut x None = record { slot = x; cut = cut; out = [] }
slot_moved_by s cut x (Some slot_moves.See) = moved_in s.plan x slot_moves.See cut
slot_moved_by s cut x (Some (slot_moves.Rewind base)) = moved_in s.plan x (slot_moves.Rewind base) cut
slot_moved_by s cut x (Some slot_moves.Release) = moved_in s.plan x slot_moves.Release cut
slot_moved_by s cut x (Some slot_moves.Report) = moved_in s.plan x slot_moves.Report cut
slot_moved_by s cut x (Some (slot_moves.Pack k)) = slot_packed s cut k x
slot_moved_by s cut x (Some (slot_moves.Begin k)) = moved_in s.plan x (slot_moves.Begin k) cut

abbrev pub slot_move : Plan → CutState → SlotState → Option SlotMove
slot_move p cut x = move_of p cut.round x.node (stand cut x.node.slot) x.back x.since

-- it makes the first move that is due
abbrev pub slot_moved : Setting → CutState → SlotState → Acted
slot_moved s cut x = slot_moved_by s cut x (slot_move s.plan cut x)

-- what it makes of itself, of the agreement, and what it sends
abbrev pub does : Setting → CutState → Doing → SlotState → Acted
does s cut doings.Hear x = slot_heard s cut x x.box
does s cut doings.Move x = slot_moved s cut x
does s cut (doings.Run e) x = slot_ran s cut e x

abbrev pub by_slot : Setting → SlotId → WorldState → (SlotState → Acted) → Option SlotState → WorldState
by_slot s slot w acts None = w
by_slot s slot w acts (Some x) = after_slot s slot (acts x) w

-- ---- events of the conductor

abbrev pub after_conductor : Setting → Heard → List Letter → WorldState → WorldState
after_conductor s h desk w = record w {
  posts = posted s.nodes h.out (record { slots = w.posts.slots; desk = desk });
  conductor = h.conductor;
}

abbrev pub told_by : Setting → WorldState → List Letter → WorldState
told_by s w [] = w
told_by s w (letter ∷ more) = after_conductor s (conductor_heard letter w.conductor) more w

-- the agreement moves, and with it what each slot would do
abbrev pub in_cut : Plan → CutState → WorldState → WorldState
in_cut p cut w = record w { posts = record { slots = map (again p cut) w.posts.slots; desk = w.posts.desk }; cut = cut }

abbrev pub is_quiet : Round → Bool
is_quiet (Quiet r) = true
is_quiet (Gather r floor) = false
is_quiet (Agreed r k) = false

abbrev pub is_gather : Round → Bool
is_gather (Quiet r) = false
is_gather (Gather r floor) = true
is_gather (Agreed r k) = false

abbrev pub has_slot : CutState → SlotId → Bool
has_slot cut slot = nat_le slot.replica 1 && nat_lt slot.node cut.nodes

abbrev pub names_replica : Taking → Bool
names_replica takings.Both = true
names_replica (takings.Only replica) = nat_le replica 1

-- the agreement takes a move of the conductor: in a run it always does
abbrev pub takes_move : CutState → CutMove → Bool
takes_move cut moves.None = false
takes_move cut (moves.Look slot) = has_slot cut slot
takes_move cut (moves.OpenRound floor) = is_quiet cut.round && nat_le floor 1000000
takes_move cut (moves.Note slot) = has_slot cut slot
takes_move cut (moves.Agree taking) = is_gather cut.round && names_replica taking
takes_move cut moves.Quiet = not (is_quiet cut.round) && nat_lt (number cut.round) 1000129

abbrev pub did_in : Setting → Heard → WorldState → WorldState
did_in s h w = after_conductor s h w.posts.desk w

abbrev pub sight_in : CutState → SlotId → Sight
sight_in cut slot = sight_of cut.round (slot_of cut slot)

-- The conductor sees a slot: its cap is noted where the round gathers. How slots stand doesn't change.
abbrev pub with_noted : SlotId → WorldState → WorldState
with_noted slot w = record w { cut = noted slot w.cut }

abbrev pub saw_in : Setting → SlotId → WorldState → WorldState
saw_in s slot w = did_in s (conductor_did s.plan s.place (answers.Seen (sight_in w.cut slot)) w.conductor) (with_noted slot w)

-- the move is made on the agreement, and the conductor hears its answer
abbrev pub conductor_made : Setting → WorldState → CutMove → WorldState
conductor_made s w moves.None = w
conductor_made s w (moves.Look slot) = saw_in s slot w
conductor_made s w (moves.OpenRound floor) = did_in s (conductor_did s.plan s.place answers.Nothing w.conductor) (in_cut s.plan (opened floor w.cut) w)
conductor_made s w (moves.Note slot) = saw_in s slot w
conductor_made s w (moves.Agree taking) = did_in s (conductor_did s.plan s.place (answers.Agreed (agreement taking w.cut)) w.conductor) (in_cut s.plan (agreed taking w.cut) w)
conductor_made s w moves.Quiet = did_in s (conductor_did s.plan s.place answers.Nothing w.conductor) (in_cut s.plan (quieted w.cut) w)

-- the conductor makes the move that it wants
abbrev pub conductor_moved : Setting → WorldState → CutMove → WorldState
conductor_moved s w move = if takes_move w.cut move then conductor_made s w move else w

-- ---- events

-- What an event makes of a world, enabled or not.
unfoldable pub happens : Setting → WorldState → Event → WorldState
happens s w (events.Run slot e) = by_slot s slot w (does s w.cut (doings.Run e)) (slot_at s.nodes w.posts.slots slot)
happens s w (events.Hear slot) = by_slot s slot w (does s w.cut doings.Hear) (slot_at s.nodes w.posts.slots slot)
happens s w (events.Move slot) = by_slot s slot w (does s w.cut doings.Move) (slot_at s.nodes w.posts.slots slot)
happens s w events.ConductorHear = told_by s w w.posts.desk
happens s w events.ConductorMove = conductor_moved s w (wanted w.conductor)

-- a whole list of events
abbrev pub reached : Setting → WorldState → List Event → WorldState
reached s w [] = w
reached s w (event ∷ more) = reached s (happens s w event) more

-- ---- enabled events

abbrev pub event_of : SlotId → Option Doing → Option Event
event_of slot None = None
event_of slot (Some doings.Hear) = Some (events.Hear slot)
event_of slot (Some doings.Move) = Some (events.Move slot)
event_of slot (Some (doings.Run e)) = Some (events.Run slot e)

abbrev pub slot_doing : Plan → CutState → SlotState → Option Doing
slot_doing p cut x = doing_of p cut.round (stand cut x.node.slot) x.node x.box x.back x.since

abbrev pub slot_event : Plan → CutState → SlotId → Option SlotState → Option Event
slot_event p cut slot None = None
slot_event p cut slot (Some x) = event_of slot (slot_doing p cut x)

abbrev pub same_cap : Option ℕ → Option ℕ → Bool
same_cap None None = true
same_cap None (Some b) = false
same_cap (Some a) None = false
same_cap (Some a) (Some b) = a == b

-- a sight that differs from the last one that the conductor was given
abbrev pub is_news : Option Sight → Sight → Bool
is_news None sight = true
is_news (Some old) sight = not (old.top == sight.top && same_cap old.cap sight.cap)

-- of the first n slots of a replica, one has news
abbrev pub news_below : CutState → ConductorState → ℕ → ℕ → Bool
news_below cut c replica zero = false
news_below cut c replica (suc j) = news_below cut c replica j || is_news (last_sight (record { replica = replica; node = j }) c) (sight_in cut (record { replica = replica; node = j }))

abbrev pub any_news : CutState → ConductorState → Bool
any_news cut c = news_below cut c 0 cut.nodes || news_below cut c 1 cut.nodes

abbrev pub has_cap : Sight → Bool
has_cap sight = is_some sight.cap

-- A move of the conductor is due where it wants one: a look only where some slot has news, a note where the slot
-- reported in this round.
abbrev pub move_due : CutState → ConductorState → CutMove → Bool
move_due cut c moves.None = false
move_due cut c (moves.Look slot) = any_news cut c
move_due cut c (moves.OpenRound floor) = true
move_due cut c (moves.Note slot) = has_cap (sight_in cut slot)
move_due cut c (moves.Agree taking) = true
move_due cut c moves.Quiet = true

abbrev pub conductor_due : WorldState → Bool
conductor_due w = takes_move w.cut (wanted w.conductor) && move_due w.cut w.conductor (wanted w.conductor)

abbrev pub desk_event : WorldState → List Letter → Option Event
desk_event w [] = if conductor_due w then Some events.ConductorMove else None
desk_event w (letter ∷ more) = Some events.ConductorHear

abbrev pub actor_event : Plan → ℕ → WorldState → Actor → Option Event
actor_event p nodes w (actors.Slot slot) = slot_event p w.cut slot (slot_at nodes w.posts.slots slot)
actor_event p nodes w actors.Conductor = desk_event w w.posts.desk

-- The event that an actor would make; none has one once the run has ended.
unfoldable pub enabled : Plan → ℕ → WorldState → Actor → Option Event
enabled p nodes w actor = if is_some w.conductor.outcome then None else actor_event p nodes w actor

abbrev pub actor_of : Event → Actor
actor_of (events.Run slot e) = actors.Slot slot
actor_of (events.Hear slot) = actors.Slot slot
actor_of (events.Move slot) = actors.Slot slot
actor_of events.ConductorHear = actors.Conductor
actor_of events.ConductorMove = actors.Conductor

-- ---- a schedule

-- the actor of a number: the slots of replica 0 by node, those of replica 1, the conductor
abbrev pub actor_at : ℕ → ℕ → Actor
actor_at nodes i =
    if nat_lt i nodes then actors.Slot (record { replica = 0; node = i })
    else if nat_lt i (nodes + nodes) then actors.Slot (record { replica = 1; node = i - nodes })
    else actors.Conductor

-- those of n actors, from number i on, that have an event
abbrev pub ready_from : Plan → ℕ → WorldState → ℕ → ℕ → List ℕ
ready_from p nodes w i zero = []
ready_from p nodes w i (suc n) =
    if is_some (enabled p nodes w (actor_at nodes i)) then i ∷ ready_from p nodes w (suc i) n else ready_from p nodes w (suc i) n

abbrev pub ready_actors : Setting → WorldState → List ℕ
ready_actors s w = ready_from s.plan s.nodes w 0 (suc (s.nodes + s.nodes))

abbrev pub stirred : ℕ → ℕ
stirred r = (r * 6364136223846793005 + 1442695040888963407) % 2 ^ 64

abbrev pub drawn : ℕ → ℕ → ℕ
drawn r n = (r / 2 ^ 33) % n

-- the first that is greater than a number, of ascending ones
abbrev pub first_above : ℕ → List ℕ → Option ℕ
first_above last [] = None
first_above last (i ∷ more) = if nat_lt last i then Some i else first_above last more

abbrev pub first_or : List ℕ → Option ℕ → Option ℕ
first_or all (Some i) = Some i
first_or all None = slice_get all 0

-- which of these actors is taken
abbrev pub chosen_of : Chooser → List ℕ → Option ℕ
chosen_of (choosers.Round last) all = first_or all (first_above last all)
chosen_of (choosers.Draw random) all = slice_get all (drawn (stirred random) (length all))

-- an actor, where there is one and it has an event, with that event
abbrev pub with_event : Plan → ℕ → WorldState → Option ℕ → Option (ℕ × Event)
with_event p nodes w None = None
with_event p nodes w (Some i) = option_map (λ event. (i, event)) (enabled p nodes w (actor_at nodes i))

-- how it goes on once an actor is taken
abbrev pub goes_on : Chooser → ℕ → Chooser
goes_on (choosers.Round last) i = choosers.Round i
goes_on (choosers.Draw random) i = choosers.Draw (stirred random)

-- Schedule 0 goes round, as if the conductor had been the last; another draws.
abbrev pub opening_chooser : ℕ → ℕ → Chooser
opening_chooser nodes schedule = if schedule == 0 then choosers.Round (nodes + nodes) else choosers.Draw schedule

-- the event of the actor of a number
abbrev pub event_at : Setting → WorldState → ℕ → Option Event
event_at s w i = enabled s.plan s.nodes w (actor_at s.nodes i)

-- the events that a chooser picks, at most n
abbrev pub picked_event : (Event → List Event) → Option Event → List Event
picked_event more None = []
picked_event more (Some event) = event ∷ more event

abbrev pub picked_by : Setting → WorldState → (ℕ → Event → List Event) → Option ℕ → List Event
picked_by s w more None = []
picked_by s w more (Some i) = picked_event (more i) (event_at s w i)

abbrev pub picked : Setting → ℕ → Chooser → WorldState → List Event
picked s zero chooser w = []
picked s (suc n) chooser w = picked_by s w (λ i event. picked s n (goes_on chooser i) (happens s w event)) (chosen_of chooser (ready_actors s w))

-- ---- the start

-- a slot at the opening, in an agreement and with all lines of this set alive
abbrev pub opening_slot : Setting → CutState → SlotId → LineSet → SlotState
opening_slot s cut slot live = renewed s.plan cut (start_state s.plan s.script s.place slot live) [] None Nothing

abbrev pub opening_slot_at : Setting → ℕ → ℕ → SlotState
opening_slot_at s replica j = opening_slot s (opening_cut s.nodes) (record { replica = replica; node = j }) (record { 0 = all_lines s.script })

-- the first n slots of a replica
abbrev pub opening_slots : Setting → ℕ → ℕ → List SlotState
opening_slots s replica zero = []
opening_slots s replica (suc j) = opening_slots s replica j ++ opening_slot_at s replica j ∷ []

-- every element at the opening in both replicas, and no letter
abbrev pub opening_posts : Setting → Posts
opening_posts s = record { slots = opening_slots s 0 s.nodes ++ opening_slots s 1 s.nodes; desk = [] }

-- in a quiet agreement
unfoldable pub opening_world : Setting → Options → WorldState
opening_world s o = record {
  posts = opening_posts s;
  cut = opening_cut s.nodes;
  conductor = start_conductor s.script o s.plan.iterations;
  over = false;
}
