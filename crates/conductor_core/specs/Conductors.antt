-- The conductor, and what each letter and each answer of the agreement makes of it.
use Rattle.std.specs.Prelude.{◌≡◌, ℕ, ◌+◌, Bool, true, false, ◌==◌, ◌&&◌, nat_lt, is_none, is_some, if◌then◌else◌, List, [], ◌∷◌, ◌++◌, length, replicate, slice_index_or, slice_set, Option, Some, None}
use Rattle.chare_base.specs.declared.options.Options.{Options}
use Rattle.chare_base.specs.declared.plan.ElementId.{ElementId}
use Rattle.chare_base.specs.declared.plan.Plan.{Plan}
use Rattle.chare_base.specs.declared.slots.LineSet.{LineSet}
use Rattle.chare_base.specs.declared.slots.SlotId.{SlotId}
use Rattle.fault_script.specs.declared.fault.Fault.{Fault}
use Rattle.pup_state.specs.declared.compare.Verdict.{Verdict}
use Rattle.pup_state.specs.declared.piece.Piece.{Piece}
use Rattle.run_ledger.specs.declared.record.Record.{Record}
use Rattle.run_ledger.specs.declared.record.Record.TheVariants as records
use Rattle.run_ledger.specs.Ledgers.{LedgerState, after, lineage_set, live_set, opening_ledger}
use Rattle.run_ledger.specs.Conditions.{due, unlawful}
use Rattle.letter_post.specs.declared.letter.Letter.{Letter}
use Rattle.letter_post.specs.declared.letter.Letter.TheVariants as letters
use Rattle.letter_post.specs.declared.letter.Sent.{Sent}
use Rattle.letter_post.specs.declared.stamp.Stamp.{Stamp}
use Rattle.letter_post.specs.Stamps.{same_stamp}
use Rattle.checkpoint_store.specs.declared.mark.Mark.{Mark}
use Rattle.checkpoint_store.specs.Assembled.{assembled}
use Rattle.checkpoint_store.specs.Marks.{mark_of}
use Rattle.iteration_agree.specs.declared.round.Sight.{Sight}
use Rattle.iteration_agree.specs.Cuts.{slot_place}
use Rattle.conductor_core.specs.declared.ending.Outcome.{Outcome}
use Rattle.conductor_core.specs.declared.ending.Outcome.TheVariants as outcomes
use Rattle.conductor_core.specs.declared.wants.CutAnswer.{CutAnswer}
use Rattle.conductor_core.specs.declared.wants.CutAnswer.TheVariants as answers
use Rattle.conductor_core.specs.declared.wants.CutMove.{CutMove}
use Rattle.conductor_core.specs.declared.wants.CutMove.TheVariants as moves
use Rattle.conductor_core.specs.declared.wants.Phase.{Phase}
use Rattle.conductor_core.specs.declared.wants.Phase.TheVariants as phases
use Rattle.conductor_core.specs.Moves.{agreed_move, first_unnoted, gather_move, quiet_move, slot_after, slot_named}
use Rattle.conductor_core.specs.Orders.{all_back, all_taken, can_rise, letters_to, raised, relined}
use Rattle.conductor_core.specs.Verdicts.{least_difference, no_pieces}

pub record ConductorState : Type 0 where
  -- what the records made of the run, and the records
  pub ledger : LedgerState
  pub records : List Record
  -- the stamps of replica 0 and of replica 1 at present
  pub first : Stamp
  pub second : Stamp
  -- how far it brought the round
  pub phase : Phase
  -- of each slot, replica 0's by node and then replica 1's, whether it is noted with a cap in this round
  pub noted : List Bool
  -- and the last sight of it, unless that is forgotten
  pub sights : List (Option Sight)
  -- the slot at which it looks next
  pub next_look : SlotId
  -- of each node how its pieces compare at the agreed iteration, once that is heard
  pub verdicts : List (Option Verdict)
  -- and its piece of replica 0
  pub pieces : List Piece
  -- of each checkpoint that was accepted
  pub marks : List Mark
  -- the checkpoint after the last iteration, once it is accepted
  pub last : List ℕ
  -- with what the run ended
  pub outcome : Option Outcome
  -- whether memory ran out: then it is of no further use
  pub over : Bool

-- a conductor after a letter or an answer, and what it sent
pub record Heard : Type 0 where
  pub conductor : ConductorState
  pub out : List Sent

abbrev pub silent : ConductorState → Heard
silent c = record { conductor = c; out = [] }

abbrev pub nodes_of : ConductorState → ℕ
nodes_of c = c.ledger.options.nodes

-- the lines that shape a replica
abbrev pub lines_now : ℕ → ConductorState → LineSet
lines_now replica c = record { 0 = lineage_set replica c.ledger }

-- ---- what it wants

abbrev pub move_in : ConductorState → Phase → CutMove
move_in c phases.Quiet = quiet_move (due c.ledger) c.sights c.next_look
move_in c phases.Gather = gather_move (first_unnoted c.noted (nodes_of c))
move_in c (phases.Agreed k) = agreed_move c.verdicts

-- nothing, once the run has ended
unfoldable pub wanted : ConductorState → CutMove
wanted c = if is_some c.outcome then moves.None else move_in c c.phase

-- ---- sights

abbrev pub sight_of : SlotId → ConductorState → Option Sight
sight_of slot c = slice_index_or c.sights (slot_place (nodes_of c) slot) None

-- a sight of a slot is kept
abbrev pub with_sight : SlotId → Sight → ConductorState → ConductorState
with_sight slot sight c = record c { sights = slice_set c.sights (slot_place (nodes_of c) slot) (Some sight) }

-- no sight is kept any more
abbrev pub unseen : ConductorState → ConductorState
unseen c = record c { sights = replicate (length c.sights) None }

-- ---- the round goes on; an answer to another move than the wanted one changes nothing

-- a slot was looked at: it looks at the next
abbrev pub look_taken : SlotId → CutAnswer → ConductorState → ConductorState
look_taken slot answers.Nothing c = c
look_taken slot (answers.Seen sight) c = record (with_sight slot sight c) { next_look = slot_after (nodes_of c) slot }
look_taken slot (answers.Agreed k) c = c

-- a round was opened: no slot is noted yet
abbrev pub round_opened : CutAnswer → ConductorState → ConductorState
round_opened answers.Nothing c = record c { phase = phases.Gather; noted = replicate (length c.noted) false }
round_opened (answers.Seen sight) c = c
round_opened (answers.Agreed k) c = c

-- a slot is noted, if it has a cap in this round
abbrev pub with_note : SlotId → Option ℕ → ConductorState → ConductorState
with_note slot None c = c
with_note slot (Some cap) c = record c { noted = slice_set c.noted (slot_place (nodes_of c) slot) true }

abbrev pub note_taken : SlotId → CutAnswer → ConductorState → ConductorState
note_taken slot answers.Nothing c = c
note_taken slot (answers.Seen sight) c = with_note slot sight.cap (with_sight slot sight c)
note_taken slot (answers.Agreed k) c = c

abbrev pub agreed_on : Option ℕ → ConductorState → ConductorState
agreed_on None c = c
agreed_on (Some k) c = record c { phase = phases.Agreed k }

abbrev pub round_agreed : CutAnswer → ConductorState → ConductorState
round_agreed answers.Nothing c = c
round_agreed (answers.Seen sight) c = c
round_agreed (answers.Agreed k) c = agreed_on k c

-- ---- records

-- a record is made
abbrev pub with_record : Record → ConductorState → ConductorState
with_record r c = record c { ledger = after c.ledger r; records = c.records ++ r ∷ [] }

-- both stamps are of the next epoch, with the lineages that the ledger has now
abbrev pub raised_stamps : ConductorState → ConductorState
raised_stamps c = record c { first = raised (lines_now 0 c) c.first; second = raised (lines_now 1 c) c.second }

-- all slots are ordered back to the base
abbrev pub sent_back : ConductorState → Heard
sent_back c = record { conductor = unseen c; out = all_back (nodes_of c) c.ledger.base (live_set c.ledger) c.first c.second }

-- both replicas go back
abbrev pub gone_back : ConductorState → Heard
gone_back c = sent_back (raised_stamps c)

-- a difference at iteration k, where the ledger takes it
abbrev pub differed_by : Option ℕ → ℕ → ElementId → ConductorState → Heard
differed_by None k element c = gone_back (with_record (records.Differ k element) c)
differed_by (Some which) k element c = silent c

-- where both stamps have a next epoch
abbrev pub differed : ℕ → ElementId → ConductorState → Heard
differed k element c =
    if can_rise c.first && can_rise c.second then differed_by (unlawful c.ledger (records.Differ k element)) k element c else silent c

-- both stamps keep their epochs, with the lineages that the ledger has now
abbrev pub relined_stamps : ConductorState → ConductorState
relined_stamps c = record c { first = relined (lines_now 0 c) c.first; second = relined (lines_now 1 c) c.second }

-- all slots are ordered to take their fresh piece as the base
abbrev pub sent_on : ConductorState → Heard
sent_on c = record { conductor = unseen c; out = all_taken (nodes_of c) c.ledger.base (live_set c.ledger) c.first c.second }

-- both replicas go on from a new base
abbrev pub gone_on : ConductorState → Heard
gone_on c = sent_on (relined_stamps c)

-- the mark of the base, which has these bytes
abbrev pub with_mark : List ℕ → ConductorState → ConductorState
with_mark bytes c = record c { marks = c.marks ++ mark_of c.ledger.base bytes ∷ [] }

-- the run is done, where the ledger takes it: these are the last checkpoint's bytes, and all slots are sent Stop
abbrev pub finished_by : Option ℕ → List ℕ → Heard → Heard
finished_by None bytes h = record {
  conductor = record (with_record records.Done h.conductor) { last = bytes; outcome = Some outcomes.Done };
  out = (h.out ++ letters_to 0 letters.Stop (nodes_of h.conductor)) ++ letters_to 1 letters.Stop (nodes_of h.conductor);
}
finished_by (Some which) bytes h = h

abbrev pub finished : List ℕ → Heard → Heard
finished bytes h = finished_by (unlawful h.conductor.ledger records.Done) bytes h

-- the base has these bytes
abbrev pub taken : List ℕ → ConductorState → Heard
taken bytes c = finished bytes (gone_on (with_mark bytes c))

-- equal checkpoints at iteration k, where the ledger takes them
abbrev pub accepted_by : Option ℕ → Plan → List ℕ → ℕ → ConductorState → Heard
accepted_by None p place k c = taken (assembled p place c.pieces) (with_record (records.Accept k) c)
accepted_by (Some which) p place k c = silent c

abbrev pub accepted : Plan → List ℕ → ℕ → ConductorState → Heard
accepted p place k c = accepted_by (unlawful c.ledger (records.Accept k)) p place k c

-- ---- the round is made quiet

-- the verdicts are used up
abbrev pub quieted : ConductorState → ConductorState
quieted c = record c { phase = phases.Quiet; verdicts = replicate (length c.verdicts) None }

-- the verdicts at iteration k name an element, or none
abbrev pub settled_by : Plan → List ℕ → ℕ → Option ElementId → ConductorState → Heard
settled_by p place k None c = accepted p place k c
settled_by p place k (Some element) c = differed k element c

-- what all verdicts at the agreed iteration say
abbrev pub settled_in : Plan → List ℕ → Phase → ConductorState → Heard
settled_in p place phases.Quiet c = silent c
settled_in p place phases.Gather c = silent c
settled_in p place (phases.Agreed k) c = settled_by p place k (least_difference c.verdicts) (quieted c)

-- the round was made quiet
abbrev pub settled : Plan → List ℕ → CutAnswer → ConductorState → Heard
settled p place answers.Nothing c = settled_in p place c.phase c
settled p place (answers.Seen sight) c = silent c
settled p place (answers.Agreed k) c = silent c

-- ---- answers

-- a move was made
abbrev pub moved : Plan → List ℕ → CutMove → CutAnswer → ConductorState → Heard
moved p place moves.None answer c = silent c
moved p place (moves.Look slot) answer c = silent (look_taken slot answer c)
moved p place (moves.OpenRound floor) answer c = silent (round_opened answer c)
moved p place (moves.Note slot) answer c = silent (note_taken slot answer c)
moved p place (moves.Agree taking) answer c = silent (round_agreed answer c)
moved p place moves.Quiet answer c = settled p place answer c

-- the move that it wants was made, with this answer
unfoldable pub conductor_did : Plan → List ℕ → CutAnswer → ConductorState → Heard
conductor_did p place answer c = moved p place (wanted c) answer c

-- ---- letters

-- the iteration that is agreed on is this one
abbrev pub is_at : ℕ → Phase → Bool
is_at k phases.Quiet = false
is_at k phases.Gather = false
is_at k (phases.Agreed agreed) = k == agreed

-- A verdict counts while the run goes on, where both its stamps are the present ones, of one of the nodes at the agreed
-- iteration.
abbrev pub counts : Stamp → Stamp → ℕ → ℕ → ConductorState → Bool
counts first second node k c = is_none c.outcome && same_stamp first c.first && same_stamp second c.second && is_at k c.phase && nat_lt node (length c.verdicts)

-- a verdict and its piece are kept
abbrev pub with_verdict : ℕ → Verdict → Piece → ConductorState → ConductorState
with_verdict node verdict piece c = record c { verdicts = slice_set c.verdicts node (Some verdict); pieces = slice_set c.pieces node piece }

abbrev pub verdict_heard : Stamp → Stamp → ℕ → ℕ → Verdict → Piece → ConductorState → ConductorState
verdict_heard first second node k verdict piece c = if counts first second node k c then with_verdict node verdict piece c else c

-- a conductor hears a letter
unfoldable pub conductor_heard : Letter → ConductorState → Heard
conductor_heard (letters.Parcel stamp entry k to payload) c = silent c
conductor_heard (letters.Partial stamp r k node value) c = silent c
conductor_heard (letters.Total stamp r k value) c = silent c
conductor_heard (letters.Piece stamp piece) c = silent c
conductor_heard (letters.VerdictOf first second node k verdict piece) c = silent (verdict_heard first second node k verdict piece c)
conductor_heard (letters.Lend k fresh) c = silent c
conductor_heard (letters.Take stamp k live piece) c = silent c
conductor_heard (letters.Restore stamp k live) c = silent c
conductor_heard (letters.Commit stamp k live) c = silent c
conductor_heard (letters.Resume stamp) c = silent c
conductor_heard (letters.Died stamp slot line) c = silent c
conductor_heard letters.Stop c = silent c

-- ---- the start

-- the stamp of a replica before its first order
abbrev pub opening_stamp : ℕ → LedgerState → Stamp
opening_stamp replica l = record { replica = replica; epoch = 0; lines = record { 0 = lineage_set replica l } }

-- with this ledger, before it heard anything
abbrev pub opening_conductor : LedgerState → ConductorState
opening_conductor l = record {
  ledger = l;
  records = [];
  first = opening_stamp 0 l;
  second = opening_stamp 1 l;
  phase = phases.Quiet;
  noted = replicate (l.options.nodes + l.options.nodes) false;
  sights = replicate (l.options.nodes + l.options.nodes) None;
  next_look = slot_named 0 0;
  verdicts = replicate l.options.nodes None;
  pieces = no_pieces l.options.nodes;
  marks = [];
  last = [];
  outcome = None;
  over = false;
}

-- of a job with n iterations, before the first record
unfoldable pub start_conductor : List Fault → Options → ℕ → ConductorState
start_conductor script o n = opening_conductor (opening_ledger script o n)

-- it has a place for each slot and each node
pub record IsOf (nodes : ℕ) (c : ConductorState) : Type 0 where
  pub options : c.ledger.options.nodes ≡ nodes
  pub noted : length c.noted ≡ nodes + nodes
  pub sights : length c.sights ≡ nodes + nodes
  pub verdicts : length c.verdicts ≡ nodes
  pub pieces : length c.pieces ≡ nodes
