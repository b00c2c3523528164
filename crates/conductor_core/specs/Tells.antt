-- What holds of the conductor, whatever true letters it hears and whatever it is answered.
use Rattle.std.specs.Prelude.{◌≡◌, ℕ, ◌<◌, ◌≤◌, ◌==◌, ◌&&◌, Bool, false, if◌then◌else◌, List, [], ◌∷◌, length, map, slice_index_or, Option, Some, None, IsSome}
use Rattle.std.specs.List.{AllByRecursion}
use Rattle.chare_base.specs.declared.options.Options.{Options}
use Rattle.chare_base.specs.declared.plan.Plan.{Plan}
use Rattle.chare_base.specs.declared.slots.SlotId.{SlotId}
use Rattle.chare_base.specs.Elements.{elements}
use Rattle.chare_base.specs.Placing.{Covers}
use Rattle.fault_script.specs.declared.fault.Fault.{Fault}
use Rattle.pup_state.specs.declared.compare.Verdict.{Verdict}
use Rattle.pup_state.specs.declared.piece.Piece.{Piece}
use Rattle.run_ledger.specs.declared.record.Record.{Record}
use Rattle.run_ledger.specs.declared.record.Record.TheVariants.{Done}
use Rattle.run_ledger.specs.Conditions.{due}
use Rattle.run_ledger.specs.Laws.{Tidy}
use Rattle.run_ledger.specs.Lawful.{EndsWith, Steps}
use Rattle.run_ledger.specs.Ledgers.{LedgerState, after_all, lineage_set, opening_ledger}
use Rattle.run_ledger.specs.Lines.{fault_of}
use Rattle.letter_post.specs.declared.letter.BoxId.{BoxId}
use Rattle.letter_post.specs.declared.letter.BoxId.TheVariants as boxes
use Rattle.letter_post.specs.declared.letter.Letter.{Letter}
use Rattle.letter_post.specs.declared.letter.Sent.{Sent}
use Rattle.letter_post.specs.declared.stamp.Stamp.{Stamp}
use Rattle.letter_post.specs.Orders.{Chain, order_at}
use Rattle.letter_post.specs.Stamps.{lines_of}
use Rattle.letter_post.specs.Truth.{Holds, Says, node_records, node_verdict}
use Rattle.checkpoint_store.specs.declared.mark.Mark.{Mark}
use Rattle.checkpoint_store.specs.Assembled.{bytes_at}
use Rattle.iteration_agree.specs.declared.round.Taking.TheVariants as takings
use Rattle.conductor_core.specs.declared.ending.Ending.{Ending}
use Rattle.conductor_core.specs.declared.ending.Outcome.TheVariants as outcomes
use Rattle.conductor_core.specs.declared.wants.CutAnswer.{CutAnswer}
use Rattle.conductor_core.specs.declared.wants.CutAnswer.TheVariants as answers
use Rattle.conductor_core.specs.declared.wants.CutMove.{CutMove}
use Rattle.conductor_core.specs.declared.wants.CutMove.TheVariants as moves
use Rattle.conductor_core.specs.declared.wants.Phase.{Phase}
use Rattle.conductor_core.specs.declared.wants.Phase.TheVariants as phases
use Rattle.conductor_core.specs.Conductors.{ConductorState, Heard, IsOf, conductor_did, conductor_heard, nodes_of, start_conductor, wanted}
use Rattle.conductor_core.specs.Endings.{IsEnding, IsLast, marks_from}
use Rattle.conductor_core.specs.Moves.{slot_named}

-- ---- what it recorded

-- The records are lawful steps from the opening, which made the ledger of the job and the script, and the marks are
-- theirs.
pub record Recorded (p : Plan) (script : List Fault) (o : Options) (ledger : LedgerState) (records : List Record) (marks : List Mark) : Type 0 where
  pub steps : Steps p script o records
  pub made : ledger ≡ after_all (opening_ledger script o p.iterations) records
  pub job : ledger.iterations ≡ p.iterations
  pub faults : map fault_of ledger.lines ≡ script
  pub tidy : Tidy ledger
  pub marked : marks ≡ marks_from p (opening_ledger script o p.iterations) records

-- two stamps are those of the replicas, and hold the lineages of a ledger
pub record Stamped (first second : Stamp) (ledger : LedgerState) : Type 0 where
  pub one : first.replica ≡ 0
  pub other : second.replica ≡ 1
  pub one_lines : first.lines.0 ≡ lineage_set 0 ledger
  pub other_lines : second.lines.0 ≡ lineage_set 1 ledger

-- ---- what it keeps of the nodes

-- A node's verdict is that of the definition's pieces after k iterations, under the lines of two stamps, and the piece
-- beside it is the first of these.
pub record IsKeptAt (p : Plan) (script : List Fault) (place : List ℕ) (first second : Stamp) (k : ℕ) (pieces : List Piece) (j : ℕ) (verdict : Verdict) : Type 0 where
  pub bytes : bytes_at pieces j ≡ node_records p place (lines_of script first) k j
  pub compares : verdict ≡ node_verdict p place (lines_of script first) (lines_of script second) k j

-- a verdict is kept in an agreed round alone
abbrev pub IsKept : Plan → List Fault → List ℕ → Stamp → Stamp → Phase → List Piece → ℕ → Verdict → Type 0
IsKept p script place first second phases.Quiet pieces j verdict = ⊥
IsKept p script place first second phases.Gather pieces j verdict = ⊥
IsKept p script place first second (phases.Agreed k) pieces j verdict = IsKeptAt p script place first second k pieces j verdict

abbrev pub verdict_at : List (Option Verdict) → ℕ → Option Verdict
verdict_at verdicts j = slice_index_or verdicts j None

abbrev pub AllKept : Plan → List Fault → List ℕ → Stamp → Stamp → Phase → List (Option Verdict) → List Piece → Type 0
AllKept p script place first second phase verdicts pieces = (j : ℕ) (verdict : Verdict) → verdict_at verdicts j ≡ Some verdict → IsKept p script place first second phase pieces j verdict

-- ---- the conductor

abbrev pub IsSlot : ℕ → SlotId → Type 0
IsSlot nodes slot = (slot.replica ≤ 1) × (slot.node < nodes)

-- at its end
pub record Ended (p : Plan) (script : List Fault) (o : Options) (c : ConductorState) : Type 0 where
  pub outcome : c.outcome ≡ Some outcomes.Done
  pub ends : EndsWith c.records Done
  pub bytes : IsLast p (opening_ledger script o p.iterations) c.records c.last

pub record Tells (p : Plan) (script : List Fault) (o : Options) (place : List ℕ) (c : ConductorState) : Type 0 where
  pub sized : IsOf o.nodes c
  pub recorded : Recorded p script o c.ledger c.records c.marks
  pub stamped : Stamped c.first c.second c.ledger
  pub kept : AllKept p script place c.first c.second c.phase c.verdicts c.pieces
  -- it looks at slots
  pub looks : 1 ≤ o.nodes → IsSlot o.nodes c.next_look
  -- before its end no record is one with which a run is over
  pub going : c.outcome ≡ None → (last : List ℕ) → IsLast p (opening_ledger script o p.iterations) c.records last
  pub ended : IsSome c.outcome → Ended p script o c

-- ---- what it sends

abbrev pub is_to : SlotId → BoxId → Bool
is_to slot (boxes.Slot other) = other.replica == slot.replica && other.node == slot.node
is_to slot boxes.Conductor = false

-- the letters among these that go to a slot, in order
abbrev pub mail_to : SlotId → List Sent → List Letter
mail_to slot [] = []
mail_to slot (sent ∷ more) = if is_to slot sent.to then sent.letter ∷ mail_to slot more else mail_to slot more

-- What each slot is sent follows what its replica was ordered last, and brings it to what its replica is ordered last now.
pub record OrdersFollow (p : Plan) (script : List Fault) (c : ConductorState) (h : Heard) : Type 0 where
  pub first : (j : ℕ) → j < nodes_of c → Chain p script (order_at c.first c.ledger.base) (mail_to (slot_named 0 j) h.out) (order_at h.conductor.first h.conductor.ledger.base)
  pub second : (j : ℕ) → j < nodes_of c → Chain p script (order_at c.second c.ledger.base) (mail_to (slot_named 1 j) h.out) (order_at h.conductor.second h.conductor.ledger.base)

-- ---- laws

abbrev pub StartsTell : Type 0
StartsTell = (p : Plan) (script : List Fault) (o : Options) (place : List ℕ) → Tells p script o place (start_conductor script o p.iterations)

-- It tells after a letter or an answer as it did before, what it sent is true, and its orders follow.
pub record TellsOn (p : Plan) (script : List Fault) (o : Options) (place : List ℕ) (c : ConductorState) (h : Heard) : Type 0 where
  pub tells : Tells p script o place h.conductor
  pub says : AllByRecursion (Says p script place) h.out
  pub follows : OrdersFollow p script c h

abbrev pub HearsTell : Type 0
HearsTell = (p : Plan) (script : List Fault) (o : Options) (place : List ℕ) (letter : Letter) (c : ConductorState) →
    Tells p script o place c → Holds p script place boxes.Conductor letter → TellsOn p script o place c (conductor_heard letter c)

abbrev pub DidTell : Type 0
DidTell = (p : Plan) (script : List Fault) (o : Options) (place : List ℕ) (answer : CutAnswer) (c : ConductorState) → length place ≡ elements p → Covers place o.nodes →
    Tells p script o place c → TellsOn p script o place c (conductor_did p place answer c)

-- what it leaves is the ending of a lawful run
abbrev pub EndsTell : Type 0
EndsTell = (p : Plan) (script : List Fault) (o : Options) (place : List ℕ) (c : ConductorState) (ending : Ending) → Tells p script o place c → c.outcome ≡ Some ending.outcome →
    ending.records.items ≡ c.records → ending.marks ≡ c.marks → ending.last ≡ c.last → IsEnding p script o ending

-- ---- its moves on the agreement

abbrev pub IsAgreed : Phase → Type 0
IsAgreed phases.Quiet = ⊥
IsAgreed phases.Gather = ⊥
IsAgreed (phases.Agreed k) = Unit {0}

-- in which phase a move is made, and with what
abbrev pub MoveFits : Plan → ℕ → ConductorState → CutMove → Type 0
MoveFits p nodes c moves.None = Unit {0}
MoveFits p nodes c (moves.Look slot) = (c.phase ≡ phases.Quiet) × IsSlot nodes slot
MoveFits p nodes c (moves.OpenRound floor) = (c.phase ≡ phases.Quiet) × (floor ≡ due c.ledger) × (floor ≤ p.iterations)
MoveFits p nodes c (moves.Note slot) = (c.phase ≡ phases.Gather) × IsSlot nodes slot
MoveFits p nodes c (moves.Agree taking) = (c.phase ≡ phases.Gather) × (taking ≡ takings.Both)
MoveFits p nodes c moves.Quiet = IsAgreed c.phase

abbrev pub MovesFit : Type 0
MovesFit = (p : Plan) (script : List Fault) (o : Options) (place : List ℕ) (c : ConductorState) → 1 ≤ o.nodes → Tells p script o place c → MoveFits p o.nodes c (wanted c)

-- the phase after a move of a phase
abbrev pub phase_on : Option ℕ → Phase → Phase
phase_on None phase = phase
phase_on (Some k) phase = phases.Agreed k

abbrev pub phase_after : CutMove → CutAnswer → Phase → Phase
phase_after moves.None answer phase = phase
phase_after (moves.Look slot) answer phase = phase
phase_after (moves.OpenRound floor) answers.Nothing phase = phases.Gather
phase_after (moves.OpenRound floor) (answers.Seen sight) phase = phase
phase_after (moves.OpenRound floor) (answers.Agreed k) phase = phase
phase_after (moves.Note slot) answer phase = phase
phase_after (moves.Agree taking) answers.Nothing phase = phase
phase_after (moves.Agree taking) (answers.Seen sight) phase = phase
phase_after (moves.Agree taking) (answers.Agreed k) phase = phase_on k phase
phase_after moves.Quiet answers.Nothing phase = phases.Quiet
phase_after moves.Quiet (answers.Seen sight) phase = phase
phase_after moves.Quiet (answers.Agreed k) phase = phase

-- its phase goes with the agreement's round
pub record PhasesFollow : Type 0 where
  pub did : (p : Plan) (place : List ℕ) (answer : CutAnswer) (c : ConductorState) → (conductor_did p place answer c).conductor.phase ≡ phase_after (wanted c) answer c.phase
  pub heard : (letter : Letter) (c : ConductorState) → (conductor_heard letter c).conductor.phase ≡ c.phase
