-- What a run without faults can still do, at most: how many events are left.
use Rattle.std.specs.Prelude.{◌≡◌, ℕ, suc, ◌+◌, ◌-◌, ◌<◌, ◌≤◌, Bool, not, ◌&&◌, nat_le, if◌then◌else◌, is_none, is_some, IsSome, List, [], ◌∷◌, map, Some, true, length}
use Rattle.chare_base.specs.declared.options.Options.{Options}
use Rattle.chare_base.specs.declared.plan.Plan.{Plan}
use Rattle.chare_base.specs.declared.slots.SlotId.{SlotId}
use Rattle.chare_base.specs.Elements.{elements}
use Rattle.iteration_agree.specs.Cuts.{CutState, slot_of, slot_place}
use Rattle.iteration_agree.specs.Slots.{cap_in}
use Rattle.iteration_agree.specs.declared.round.Round.{Round}
use Rattle.iteration_agree.specs.declared.round.Round.TheVariants as rounds
use Rattle.iteration_agree.specs.declared.slot.Slot.{Slot}
use Rattle.letter_post.specs.declared.letter.Letter.{Letter}
use Rattle.letter_post.specs.declared.letter.Letter.TheVariants as letters
use Rattle.letter_post.specs.declared.letter.Sent.{Sent}
use Rattle.node_core.specs.Costs.{node_left, sum, times, weight}
use Rattle.conductor_core.specs.declared.wants.Phase.{Phase}
use Rattle.conductor_core.specs.declared.wants.Phase.TheVariants as phases
use Rattle.conductor_core.specs.Conductors.{ConductorState}
use Rattle.conductor_core.specs.Conductors.{sight_of as last_sight}
use Rattle.world_core.specs.declared.doing.Since.{Since}
use Rattle.world_core.specs.declared.event.Actor.{Actor}
use Rattle.world_core.specs.declared.event.Chooser.{Chooser}
use Rattle.world_core.specs.declared.event.Event.{Event}
use Rattle.world_core.specs.Bounds.{capped, turns_bound}
use Rattle.world_core.specs.Drills.{drilled}
use Rattle.world_core.specs.Moves.{is_resumed, same_round}
use Rattle.world_core.specs.Sound.{Sound, names}
use Rattle.world_core.specs.Steps.{is_enabled}
use Rattle.world_core.specs.Still.{Afloat, IsPlain}
use Rattle.world_core.specs.Worlds.{Setting, SlotState, WorldState, enabled, happens, is_news, opening_world, picked, reached, sight_in}

-- ---- looks

-- how many looks it takes until place i is looked at, that look counted
abbrev pub looks_to : ℕ → ℕ → ℕ → ℕ
looks_to places next i = if nat_le next i then suc (i - next) else suc (places + i - next)

-- to each place that has news; the first of these has number i
abbrev pub looks_of : ℕ → ℕ → ℕ → List Bool → ℕ
looks_of places next i [] = 0
looks_of places next i (new ∷ more) = (if new then looks_to places next i else 0) + looks_of places next (suc i) more

abbrev pub has_news : CutState → ConductorState → SlotId → Bool
has_news cut c slot = is_news (last_sight slot c) (sight_in cut slot)

abbrev pub all_news : CutState → ConductorState → List Bool
all_news cut c = map (has_news cut c) (names cut.nodes)

-- Each look that finds a slot without news brings those that have some nearer, and one that finds news uses it up.
unfoldable pub looks_left : CutState → ConductorState → ℕ
looks_left cut c = looks_of (cut.nodes + cut.nodes) (slot_place cut.nodes c.next_look) 0 (all_news cut c)

-- ---- letters

-- hearing a letter, and what hearing it sends or brings back: after Commit a slot packs again, after Resume it is released
abbrev pub letter_left : Plan → List ℕ → Letter → ℕ
letter_left p place (letters.Parcel stamp entry k to payload) = weight p place (letters.Parcel stamp entry k to payload)
letter_left p place (letters.Partial stamp r k node value) = weight p place (letters.Partial stamp r k node value)
letter_left p place (letters.Total stamp r k value) = weight p place (letters.Total stamp r k value)
letter_left p place (letters.Piece stamp piece) = weight p place (letters.Piece stamp piece)
letter_left p place (letters.VerdictOf first second node k verdict piece) = weight p place (letters.VerdictOf first second node k verdict piece)
letter_left p place (letters.Lend k fresh) = 1
letter_left p place (letters.Take stamp k live piece) = 1
letter_left p place (letters.Restore stamp k live) = 1
letter_left p place (letters.Commit stamp k live) = 4
letter_left p place (letters.Resume stamp) = 2
letter_left p place (letters.Died stamp slot line) = 1
letter_left p place letters.Stop = 1

abbrev pub sent_left : Plan → List ℕ → Sent → ℕ
sent_left p place sent = letter_left p place sent.letter

-- ---- slots

-- it sees a round that it hasn't seen
abbrev pub see_left : Round → Slot → ℕ
see_left round t = if same_round t.seen round then 0 else 1

-- It reports once in a round that gathers. That is news, which costs at most a look at each place.
abbrev pub report_left : ℕ → Round → Slot → ℕ
report_left places (rounds.Quiet r) t = 0
report_left places (rounds.Gather r floor) t = if is_none (cap_in r t.cap) then suc places else 0
report_left places (rounds.Agreed r k) t = 0

-- once it heard Resume it is released
abbrev pub release_left : Since → Slot → ℕ
release_left since t = if is_resumed since && not t.free then 1 else 0

-- each iteration that it begins is news
abbrev pub begins_left : ℕ → ℕ → Slot → ℕ
begins_left places iterations t = times (iterations - t.top) (suc places)

abbrev pub moves_left : ℕ → ℕ → Round → Since → Slot → ℕ
moves_left places iterations round since t = see_left round t + (report_left places round t + (release_left since t + begins_left places iterations t))

abbrev pub slot_left : Setting → CutState → SlotState → ℕ
slot_left s cut x =
    node_left s.plan s.place x.node + (sum (letter_left s.plan s.place) x.box + moves_left (s.nodes + s.nodes) s.plan.iterations cut.round x.since (slot_of cut x.node.slot))

-- ---- rounds

-- slots that aren't noted
abbrev pub unnoted : List Bool → ℕ
unnoted noted = sum (λ (b : Bool). if b then 0 else 1) noted

-- An agreed round is made quiet: every slot sees that and is sent two orders, which weigh six, and the conductor may have to
-- look at each place to find any of them.
abbrev pub agreed_left : ℕ → ℕ
agreed_left places = suc (times places 7 + times places places)

-- a round that gathers is agreed on: every slot sees that
abbrev pub gather_left : ℕ → ℕ → ℕ
gather_left places missing = suc (missing + (places + agreed_left places))

-- a round is opened: every slot sees that and reports
abbrev pub round_left : ℕ → ℕ
round_left places = suc (times places (suc (suc places)) + gather_left places places)

-- Each round's checkpoint is behind the one before.
abbrev pub rounds_left : ℕ → ℕ → ℕ → ℕ → Phase → ℕ
rounds_left places iterations base missing phases.Quiet = times (iterations - base) (round_left places)
rounds_left places iterations base missing phases.Gather = times (iterations - suc base) (round_left places) + gather_left places missing
rounds_left places iterations base missing (phases.Agreed k) = times (iterations - suc base) (round_left places) + agreed_left places

-- ---- the world

abbrev pub slots_left : Setting → CutState → List SlotState → ℕ
slots_left s cut slots = sum (slot_left s cut) slots

abbrev pub desk_left : Setting → List Letter → ℕ
desk_left s desk = sum (letter_left s.plan s.place) desk

abbrev pub going_left : Setting → WorldState → ℕ
going_left s w =
    slots_left s w.cut w.posts.slots + (desk_left s w.posts.desk + (looks_left w.cut w.conductor + rounds_left (s.nodes + s.nodes) s.plan.iterations w.conductor.ledger.base (unnoted w.conductor.noted) w.conductor.phase))

-- nothing, once the run has ended
unfoldable pub world_left : Setting → WorldState → ℕ
world_left s w = if is_some w.conductor.outcome then 0 else suc (going_left s w)

-- ---- laws, for scripts without faults

-- by an event that an actor has
abbrev pub EveryEventLowers : Type 0
EveryEventLowers = (s : Setting) (o : Options) (w : WorldState) (actor : Actor) (event : Event) → IsPlain s o → Sound s o w → Afloat s w → enabled s.plan s.nodes w actor ≡ Some event →
    world_left s (happens s w event) < world_left s w

-- by any event that can happen
abbrev pub EachEventLowers : Type 0
EachEventLowers = (s : Setting) (o : Options) (w : WorldState) (event : Event) → IsPlain s o → Sound s o w → Afloat s w → is_enabled s.plan s.nodes w event ≡ true → world_left s (happens s w event) < world_left s w

-- events of which each can happen as it comes
abbrev pub CanHappen : Setting → WorldState → List Event → Type 0
CanHappen s w [] = Unit {0}
CanHappen s w (event ∷ more) = (is_enabled s.plan s.nodes w event ≡ true) × CanHappen s (happens s w event) more

-- No run has more events than the turns of a schedule, whichever events are taken.
abbrev pub NoRunIsLonger : Type 0
NoRunIsLonger = (s : Setting) (o : Options) (all : List Event) → IsPlain s o → CanHappen s (opening_world s o) all → length all ≤ turns_bound s.plan 0 s.nodes

-- However a chooser picks, no more turns end the run than what is left at the start.
abbrev pub EveryScheduleEnds : Type 0
EveryScheduleEnds = (s : Setting) (o : Options) (chooser : Chooser) (turns : ℕ) → IsPlain s o → world_left s (opening_world s o) ≤ turns →
    IsSome (reached s (opening_world s o) (picked s turns chooser (opening_world s o))).conductor.outcome

-- the turns that a schedule has, for a script without lines
abbrev pub TurnsSuffice : Type 0
TurnsSuffice = (s : Setting) (o : Options) → IsPlain s o → world_left s (opening_world s o) ≤ capped (turns_bound s.plan 0 s.nodes)

-- so every drill of such a script comes to the end of its run
abbrev pub DrillsEnd : Type 0
DrillsEnd = (p : Plan) (o : Options) (schedule : ℕ) → 1 ≤ o.nodes → o.nodes ≤ elements p → o.nodes ≤ 32 → 1 ≤ o.every → IsSome (drilled p [] o schedule).conductor.outcome
