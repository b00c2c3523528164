-- What answers make of the conductor, and what it leaves.
use Rattle.std.proofs.Common.{◌≡◌, ℕ, zero, suc, ◌+◌, ◌≤◌, Bool, true, false, cond, List, length, refl, ap, sym, ◌∙◌, arith, subst, Option, Some, None}
use Rattle.std.specs.Prelude.{◌==◌, ◌&&◌, is_some, nat_lt, slice_set}
use Rattle.std.specs.List.{list_all, list_any}
use Rattle.std.proofs.lemmas.Bool.{ltb-true}
use Rattle.std.proofs.lemmas.List.{length-replicate, length-set}
use Rattle.chare_base.specs.declared.options.Options.{Options}
use Rattle.chare_base.specs.declared.plan.ElementId.{ElementId}
use Rattle.chare_base.specs.declared.plan.Plan.{Plan}
use Rattle.chare_base.specs.declared.slots.SlotId.{SlotId}
use Rattle.chare_base.specs.Elements.{elements}
use Rattle.chare_base.specs.Placing.{Covers}
use Rattle.fault_script.specs.declared.fault.Fault.{Fault}
use Rattle.run_ledger.specs.declared.record.Record.{Record}
use Rattle.run_ledger.specs.declared.record.Record.TheVariants.{Accept, Differ, Done}
use Rattle.run_ledger.specs.Conditions.{due, unlawful}
use Rattle.run_ledger.specs.Lawful.{EndsWith, Steps}
use Rattle.run_ledger.specs.Ledgers.{LedgerState, opening_ledger}
use Rattle.checkpoint_store.specs.Assembled.{assembled}
use Rattle.letter_post.specs.declared.letter.Letter.{Letter}
use Rattle.letter_post.specs.declared.letter.Letter.TheVariants as letters
use Rattle.iteration_agree.specs.declared.round.Taking.{Taking}
use Rattle.iteration_agree.specs.declared.round.Taking.TheVariants as takings
use Rattle.iteration_agree.specs.Cuts.{slot_place}
use Rattle.conductor_core.specs.declared.ending.Outcome.{Outcome}
use Rattle.conductor_core.specs.declared.ending.Outcome.TheVariants as outcomes
use Rattle.conductor_core.specs.declared.wants.CutAnswer.{CutAnswer}
use Rattle.conductor_core.specs.declared.wants.CutAnswer.TheVariants as answers
use Rattle.conductor_core.specs.declared.wants.CutMove.{CutMove}
use Rattle.conductor_core.specs.declared.wants.CutMove.TheVariants as moves
use Rattle.conductor_core.specs.declared.wants.Phase.{Phase}
use Rattle.conductor_core.specs.declared.wants.Phase.TheVariants as phases
use Rattle.conductor_core.specs.Conductors.{ConductorState, Heard, accepted_by, agreed_on, conductor_did, conductor_heard, counts, differed_by, finished_by, gone_on, move_in, moved, nodes_of, quieted, settled_by, settled_in, silent, wanted, with_mark, with_note, with_record, with_sight, with_verdict}
use Rattle.conductor_core.specs.Endings.{IsLast, marks_from}
use Rattle.conductor_core.specs.Moves.{first_unnoted, gather_move, is_noted, reaches, slot_after, slot_named, slot_or, unnoted_from}
use Rattle.conductor_core.specs.Tells.{AllKept, DidTell, Ended, EndsTell, IsAgreed, IsSlot, MoveFits, MovesFit, PhasesFollow, Tells, TellsOn, phase_after, phase_on}
use Rattle.conductor_core.specs.Orders.{can_rise}
use Rattle.conductor_core.specs.Verdicts.{least_difference}
use Rattle.conductor_core.proofs.Hearing.{stays_so}
use Rattle.conductor_core.proofs.Settling.{Grounds, settled_tells}

-- ---- in which phase it wants a move

abbrev Wanted : ConductorState → CutMove → Type 0
Wanted c moves.None = Unit {0}
Wanted c (moves.Look slot) = (c.phase ≡ phases.Quiet) × (slot ≡ c.next_look)
Wanted c (moves.OpenRound floor) = (c.phase ≡ phases.Quiet) × (floor ≡ due c.ledger)
Wanted c (moves.Note slot) = (c.phase ≡ phases.Gather) × (first_unnoted c.noted (nodes_of c) ≡ Some slot)
Wanted c (moves.Agree taking) = (c.phase ≡ phases.Gather) × (taking ≡ takings.Both)
Wanted c moves.Quiet = IsAgreed c.phase × (c.outcome ≡ None) × (list_all is_some c.verdicts ≡ true)

wanted_is : (c : ConductorState) → Wanted c (wanted c)
unfolding wanted
wanted_is c = outcomes_of c.outcome refl
  where
    quiet : (b : Bool) → list_any (reaches (due c.ledger)) c.sights ≡ b → c.phase ≡ phases.Quiet → Wanted c (cond {A = CutMove} b (moves.OpenRound (due c.ledger)) (moves.Look c.next_look))
    quiet true is at = (at, refl)
    quiet false is at = (at, refl)

    gather : (f : Option SlotId) → first_unnoted c.noted (nodes_of c) ≡ f → c.phase ≡ phases.Gather → Wanted c (gather_move f)
    gather None is at = (at, refl)
    gather (Some slot) is at = (at, is)

    agreed : (b : Bool) → list_all is_some c.verdicts ≡ b → IsAgreed c.phase → c.outcome ≡ None → Wanted c (cond {A = CutMove} b moves.Quiet moves.None)
    agreed true is at going = (at, going, is)
    agreed false is at going = tt

    in_phase : (phase : Phase) → c.phase ≡ phase → c.outcome ≡ None → Wanted c (move_in c phase)
    in_phase phases.Quiet at going = quiet (list_any (reaches (due c.ledger)) c.sights) refl at
    in_phase phases.Gather at going = gather (first_unnoted c.noted (nodes_of c)) refl at
    in_phase (phases.Agreed k) at going = agreed (list_all is_some c.verdicts) refl (subst IsAgreed (sym at) tt) going

    outcomes_of : (found : Option Outcome) → c.outcome ≡ found → Wanted c (cond {A = CutMove} (is_some found) moves.None (move_in c c.phase))
    outcomes_of None is = in_phase c.phase refl is
    outcomes_of (Some outcome) is = tt

-- ---- slots

slot_goes_on : (nodes : ℕ) (slot : SlotId) → 1 ≤ nodes → IsSlot nodes slot → IsSlot nodes (slot_after nodes slot)
slot_goes_on nodes slot some is = by (nat_lt (slot.node + 1) nodes) refl
  where
    turned : (b : Bool) → cond b 1 0 ≤ 1
    turned true = omega arith
    turned false = omega arith

    by : (b : Bool) → nat_lt (slot.node + 1) nodes ≡ b → IsSlot nodes (cond {A = SlotId} b (slot_named slot.replica (slot.node + 1)) (slot_named (cond (slot.replica == 0) 1 0) 0))
    by true h = (is.0, ltb-true (slot.node + 1) nodes h)
    by false h = (turned (slot.replica == 0), omega (arith, some))

unnoted_is : (noted : List Bool) (nodes r j n : ℕ) (slot : SlotId) → r ≤ 1 → j + n ≤ nodes → unnoted_from noted nodes r j n ≡ Some slot → IsSlot nodes slot
unnoted_is noted nodes r j zero slot h within is = absurd (let q : None ≡ Some slot = is in cc)
unnoted_is noted nodes r j (suc n) slot h within is = by (is_noted noted nodes (slot_named r j)) (λ rest. unnoted_is noted nodes r (suc j) n slot h (omega (arith, within)) rest) is
  where
    by : (b : Bool) → (unnoted_from noted nodes r (suc j) n ≡ Some slot → IsSlot nodes slot) → cond b (unnoted_from noted nodes r (suc j) n) (Some (slot_named r j)) ≡ Some slot → IsSlot nodes slot
    by true more is = more is
    by false more is = let q : Some (slot_named r j) ≡ Some slot = is in let same : slot_named r j ≡ slot = cc in subst (IsSlot nodes) same (h, omega (arith, within))

first_is : (noted : List Bool) (nodes : ℕ) (slot : SlotId) → first_unnoted noted nodes ≡ Some slot → IsSlot nodes slot
first_is noted nodes slot is = by (unnoted_from noted nodes 0 0 nodes) refl is
  where
    by : (f : Option SlotId) → unnoted_from noted nodes 0 0 nodes ≡ f → slot_or f (unnoted_from noted nodes 1 0 nodes) ≡ Some slot → IsSlot nodes slot
    by None none is = unnoted_is noted nodes 1 0 nodes slot (omega arith) (omega arith) is
    by (Some other) some is = unnoted_is noted nodes 0 0 nodes slot (omega arith) (omega arith) (some ∙ is)

pub moves_fit : MovesFit
moves_fit p script o place c some tells = by (wanted c) (wanted_is c)
  where
    by : (move : CutMove) → Wanted c move → MoveFits p o.nodes c move
    by moves.None w = tt
    by (moves.Look slot) w = (w.0, subst (IsSlot o.nodes) (sym w.1) (tells.looks some))
    by (moves.OpenRound floor) w = (w.0, w.1, omega (arith, w.1, tells.recorded.job))
    by (moves.Note slot) w = (w.0, let P : ℕ → Type 0 = λ n. IsSlot n slot in subst P tells.sized.options (first_is c.noted (nodes_of c) slot w.1))
    by (moves.Agree taking) w = w
    by moves.Quiet w = w.0

-- ---- answers

module _ (g : Grounds) (p : Plan) (script : List Fault) (o : Options) (place : List ℕ) (count : length place ≡ elements p) (covers : Covers place o.nodes) (c : ConductorState) (tells : Tells p script o place c) where
  -- a quiet or gathering round keeps no verdict, so it may be taken for another
  kept_on : (phase other : Phase) → (IsAgreed phase → ⊥) → c.phase ≡ phase → AllKept p script place c.first c.second other c.verdicts c.pieces
  kept_on phases.Quiet other never at j verdict is = absurd (let P : Phase → Type 0 = λ ph. AllKept p script place c.first c.second ph c.verdicts c.pieces in (subst P at tells.kept) j verdict is)
  kept_on phases.Gather other never at j verdict is = absurd (let P : Phase → Type 0 = λ ph. AllKept p script place c.first c.second ph c.verdicts c.pieces in (subst P at tells.kept) j verdict is)
  kept_on (phases.Agreed k) other never at j verdict is = absurd (never tt)

  look_tells : (slot : SlotId) (answer : CutAnswer) → slot ≡ c.next_look → TellsOn p script o place c (moved p place (moves.Look slot) answer c)
  look_tells slot answers.Nothing is = stays_so p script o place c tells
  look_tells slot (answers.Agreed k) is = stays_so p script o place c tells
  look_tells slot (answers.Seen sight) is = record {
    tells = record {
      sized = record {
        options = tells.sized.options;
        noted = tells.sized.noted;
        sights = length-set c.sights (slot_place (nodes_of c) slot) (Some sight) ∙ tells.sized.sights;
        verdicts = tells.sized.verdicts;
        pieces = tells.sized.pieces;
      };
      recorded = tells.recorded;
      stamped = tells.stamped;
      kept = tells.kept;
      looks = λ some.
          let P : ℕ → Type 0 = λ n. IsSlot o.nodes (slot_after n slot) in
          subst P (sym tells.sized.options) (slot_goes_on o.nodes slot some (subst (IsSlot o.nodes) (sym is) (tells.looks some)));
      going = tells.going;
      ended = λ some. let e : Ended p script o c = tells.ended some in record { outcome = e.outcome; ends = e.ends; bytes = e.bytes };
    };
    says = tt;
    follows = record { first = λ j h. refl; second = λ j h. refl };
  }

  open_tells : (floor : ℕ) (answer : CutAnswer) → c.phase ≡ phases.Quiet → TellsOn p script o place c (moved p place (moves.OpenRound floor) answer c)
  open_tells floor (answers.Seen sight) at = stays_so p script o place c tells
  open_tells floor (answers.Agreed k) at = stays_so p script o place c tells
  open_tells floor answers.Nothing at = record {
    tells = record {
      sized = record {
        options = tells.sized.options;
        noted = length-replicate (length c.noted) false ∙ tells.sized.noted;
        sights = tells.sized.sights;
        verdicts = tells.sized.verdicts;
        pieces = tells.sized.pieces;
      };
      recorded = tells.recorded;
      stamped = tells.stamped;
      kept = kept_on phases.Quiet phases.Gather (λ agreed. agreed) at;
      looks = tells.looks;
      going = tells.going;
      ended = λ some. let e : Ended p script o c = tells.ended some in record { outcome = e.outcome; ends = e.ends; bytes = e.bytes };
    };
    says = tt;
    follows = record { first = λ j h. refl; second = λ j h. refl };
  }

  note_tells : (slot : SlotId) (answer : CutAnswer) → TellsOn p script o place c (moved p place (moves.Note slot) answer c)
  note_tells slot answers.Nothing = stays_so p script o place c tells
  note_tells slot (answers.Agreed k) = stays_so p script o place c tells
  note_tells slot (answers.Seen sight) = by sight.cap
    where
      with : (noted : List Bool) → length noted ≡ o.nodes + o.nodes → Tells p script o place (record c { sights = slice_set c.sights (slot_place (nodes_of c) slot) (Some sight); noted = noted })
      with noted sized = record {
        sized = record {
          options = tells.sized.options;
          noted = sized;
          sights = length-set c.sights (slot_place (nodes_of c) slot) (Some sight) ∙ tells.sized.sights;
          verdicts = tells.sized.verdicts;
          pieces = tells.sized.pieces;
        };
        recorded = tells.recorded;
        stamped = tells.stamped;
        kept = tells.kept;
        looks = tells.looks;
        going = tells.going;
        ended = λ some. let e : Ended p script o c = tells.ended some in record { outcome = e.outcome; ends = e.ends; bytes = e.bytes };
      }

      by : (cap : Option ℕ) → TellsOn p script o place c (silent (with_note slot cap (with_sight slot sight c)))
      by None = record { tells = with c.noted tells.sized.noted; says = tt; follows = record { first = λ j h. refl; second = λ j h. refl } }
      by (Some cap) = record {
        tells = with (slice_set c.noted (slot_place (nodes_of c) slot) true) (length-set c.noted (slot_place (nodes_of c) slot) true ∙ tells.sized.noted);
        says = tt;
        follows = record { first = λ j h. refl; second = λ j h. refl };
      }

  agree_tells : (taking : Taking) (answer : CutAnswer) → c.phase ≡ phases.Gather → TellsOn p script o place c (moved p place (moves.Agree taking) answer c)
  agree_tells taking answers.Nothing at = stays_so p script o place c tells
  agree_tells taking (answers.Seen sight) at = stays_so p script o place c tells
  agree_tells taking (answers.Agreed None) at = stays_so p script o place c tells
  agree_tells taking (answers.Agreed (Some k)) at = record {
    tells = record {
      sized = record { options = tells.sized.options; noted = tells.sized.noted; sights = tells.sized.sights; verdicts = tells.sized.verdicts; pieces = tells.sized.pieces };
      recorded = tells.recorded;
      stamped = tells.stamped;
      kept = kept_on phases.Gather (phases.Agreed k) (λ agreed. agreed) at;
      looks = tells.looks;
      going = tells.going;
      ended = λ some. let e : Ended p script o c = tells.ended some in record { outcome = e.outcome; ends = e.ends; bytes = e.bytes };
    };
    says = tt;
    follows = record { first = λ j h. refl; second = λ j h. refl };
  }

  quiet_moved : (answer : CutAnswer) → Wanted c moves.Quiet → TellsOn p script o place c (moved p place moves.Quiet answer c)
  quiet_moved (answers.Seen sight) w = stays_so p script o place c tells
  quiet_moved (answers.Agreed k) w = stays_so p script o place c tells
  quiet_moved answers.Nothing w = by c.phase refl
    where
      by : (phase : Phase) → c.phase ≡ phase → TellsOn p script o place c (settled_in p place phase c)
      by phases.Quiet at = stays_so p script o place c tells
      by phases.Gather at = stays_so p script o place c tells
      by (phases.Agreed k) at = settled_tells g p script o place count covers c tells k at w.1 w.2

  moved_tells : (move : CutMove) (answer : CutAnswer) → Wanted c move → TellsOn p script o place c (moved p place move answer c)
  moved_tells moves.None answer w = stays_so p script o place c tells
  moved_tells (moves.Look slot) answer w = look_tells slot answer w.1
  moved_tells (moves.OpenRound floor) answer w = open_tells floor answer w.0
  moved_tells (moves.Note slot) answer w = note_tells slot answer
  moved_tells (moves.Agree taking) answer w = agree_tells taking answer w.0
  moved_tells moves.Quiet answer w = quiet_moved answer w

pub did_tell : Grounds → DidTell
unfolding conductor_did
did_tell g p script o place answer c count covers tells = moved_tells g p script o place count covers c tells (wanted c) answer (wanted_is c)

-- ---- the end

pub ends_tell : EndsTell
ends_tell p script o place c ending tells outcome records marks last =
    let start : LedgerState = opening_ledger script o p.iterations in
    let e : Ended p script o c = tells.ended (ap is_some outcome) in
    let P : List Record → Type 0 = λ rs. Steps p script o rs in
    let Q : List Record → Type 0 = λ rs. EndsWith rs Done in
    let R : List Record → Type 0 = λ rs. IsLast p start rs c.last in
    let S : List ℕ → Type 0 = λ bytes. IsLast p start ending.records.items bytes in
    let done : Some ending.outcome ≡ Some outcomes.Done = sym outcome ∙ e.outcome in
    record {
      lawful = record { steps = subst P (sym records) tells.recorded.steps; last = Done; ends = subst Q (sym records) e.ends; over = tt };
      outcome = let same : ending.outcome ≡ outcomes.Done = cc in same;
      marks = marks ∙ tells.recorded.marked ∙ ap (marks_from p start) (sym records);
      last = subst S (sym last) (subst R (sym records) e.bytes);
    }

-- ---- phases

with_note_stays : (slot : SlotId) (cap : Option ℕ) (c : ConductorState) → (with_note slot cap c).phase ≡ c.phase
with_note_stays slot None c = refl
with_note_stays slot (Some cap) c = refl

agreed_on_stays : (k : Option ℕ) (c : ConductorState) → (agreed_on k c).phase ≡ phase_on k c.phase
agreed_on_stays None c = refl
agreed_on_stays (Some k) c = refl

module _ (p : Plan) (place : List ℕ) where
  finished_stays : (r : Option ℕ) (bytes : List ℕ) (h : Heard) → (finished_by r bytes h).conductor.phase ≡ h.conductor.phase
  finished_stays None bytes h = refl
  finished_stays (Some which) bytes h = refl

  accepted_stays : (r : Option ℕ) (k : ℕ) (c : ConductorState) → (accepted_by r p place k c).conductor.phase ≡ c.phase
  accepted_stays None k c =
      let on : Heard = gone_on (with_mark (assembled p place c.pieces) (with_record (Accept k) c)) in
      finished_stays (unlawful on.conductor.ledger Done) (assembled p place c.pieces) on
  accepted_stays (Some which) k c = refl

  differed_stays : (b : Bool) (r : Option ℕ) (k : ℕ) (e : ElementId) (c : ConductorState) → (cond {A = Heard} b (differed_by r k e c) (silent c)).conductor.phase ≡ c.phase
  differed_stays true None k e c = refl
  differed_stays true (Some which) k e c = refl
  differed_stays false r k e c = refl

  settled_stays : (f : Option ElementId) (k : ℕ) (c : ConductorState) → (settled_by p place k f c).conductor.phase ≡ c.phase
  settled_stays None k c = accepted_stays (unlawful c.ledger (Accept k)) k c
  settled_stays (Some e) k c = differed_stays (can_rise c.first && can_rise c.second) (unlawful c.ledger (Differ k e)) k e c

  settled_quiet : (phase : Phase) (c : ConductorState) → IsAgreed phase → (settled_in p place phase c).conductor.phase ≡ phases.Quiet
  settled_quiet phases.Quiet c agreed = absurd agreed
  settled_quiet phases.Gather c agreed = absurd agreed
  settled_quiet (phases.Agreed k) c agreed = settled_stays (least_difference c.verdicts) k (quieted c)

  moved_phase : (move : CutMove) (answer : CutAnswer) (c : ConductorState) → Wanted c move → (moved p place move answer c).conductor.phase ≡ phase_after move answer c.phase
  moved_phase moves.None answer c w = refl
  moved_phase (moves.Look slot) answers.Nothing c w = refl
  moved_phase (moves.Look slot) (answers.Seen sight) c w = refl
  moved_phase (moves.Look slot) (answers.Agreed k) c w = refl
  moved_phase (moves.OpenRound floor) answers.Nothing c w = refl
  moved_phase (moves.OpenRound floor) (answers.Seen sight) c w = refl
  moved_phase (moves.OpenRound floor) (answers.Agreed k) c w = refl
  moved_phase (moves.Note slot) answers.Nothing c w = refl
  moved_phase (moves.Note slot) (answers.Seen sight) c w = with_note_stays slot sight.cap (with_sight slot sight c)
  moved_phase (moves.Note slot) (answers.Agreed k) c w = refl
  moved_phase (moves.Agree taking) answers.Nothing c w = refl
  moved_phase (moves.Agree taking) (answers.Seen sight) c w = refl
  moved_phase (moves.Agree taking) (answers.Agreed k) c w = agreed_on_stays k c
  moved_phase moves.Quiet answers.Nothing c w = settled_quiet c.phase c w.0
  moved_phase moves.Quiet (answers.Seen sight) c w = refl
  moved_phase moves.Quiet (answers.Agreed k) c w = refl

heard_phase : (letter : Letter) (c : ConductorState) → (conductor_heard letter c).conductor.phase ≡ c.phase
unfolding conductor_heard
heard_phase (letters.VerdictOf first second node k verdict piece) c = by (counts first second node k c)
  where
    by : (b : Bool) → (cond {A = ConductorState} b (with_verdict node verdict piece c) c).phase ≡ c.phase
    by true = refl
    by false = refl
heard_phase (letters.Parcel stamp entry k to payload) c = refl
heard_phase (letters.Partial stamp r k node value) c = refl
heard_phase (letters.Total stamp r k value) c = refl
heard_phase (letters.Piece stamp piece) c = refl
heard_phase (letters.Lend k fresh) c = refl
heard_phase (letters.Take stamp k live piece) c = refl
heard_phase (letters.Restore stamp k live) c = refl
heard_phase (letters.Commit stamp k live) c = refl
heard_phase (letters.Resume stamp) c = refl
heard_phase (letters.Died stamp slot line) c = refl
heard_phase letters.Stop c = refl

did_phase : (p : Plan) (place : List ℕ) (answer : CutAnswer) (c : ConductorState) → (conductor_did p place answer c).conductor.phase ≡ phase_after (wanted c) answer c.phase
unfolding conductor_did
did_phase p place answer c = moved_phase p place (wanted c) answer c (wanted_is c)

pub phases_follow : PhasesFollow
phases_follow = record { did = did_phase; heard = heard_phase }
