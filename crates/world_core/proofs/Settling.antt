-- What the conductor makes of verdicts in a run without faults: it accepts the checkpoint.
use Rattle.std.proofs.Common.{◌≡◌, ℕ, ◌<◌, ◌≤◌, arith, suc, Bool, true, false, List, [], ◌∷◌, refl, ap, sym, ◌∙◌, subst, Option, Some, None}
use Rattle.std.specs.Prelude.{◌==◌, ◌&&◌, map, nat_le, nat_lt, not, slice_index_or}
use Rattle.std.proofs.lemmas.Bool.{leb-true, ltb-true}
use Rattle.std.proofs.lemmas.Bool.Decides.{nat_tests}
use Rattle.chare_base.specs.declared.options.Options.{Options}
use Rattle.fault_script.specs.declared.fault.Fault.{Fault}
use Rattle.letter_post.specs.Stamps.{lines_of}
use Rattle.letter_post.specs.Truth.{node_records}
use Rattle.pup_state.specs.declared.compare.Verdict.{Verdict}
use Rattle.pup_state.specs.declared.compare.Verdict.TheVariants as verdicts
use Rattle.buddy_compare.specs.Laws.{EqualExactly}
use Rattle.iteration_agree.specs.declared.round.Round.{Round}
use Rattle.iteration_agree.specs.declared.round.Round.TheVariants as rounds
use Rattle.run_ledger.specs.declared.line.LedgerLine.{LedgerLine}
use Rattle.run_ledger.specs.declared.record.Record.TheVariants as records
use Rattle.run_ledger.specs.Conditions.{both_up, crash_free, due, first_false, is_next, unlawful}
use Rattle.run_ledger.specs.Ledgers.{LedgerState}
use Rattle.run_ledger.specs.Lines.{fault_of}
use Rattle.conductor_core.specs.declared.wants.Phase.TheVariants as phases
use Rattle.conductor_core.specs.Conductors.{ConductorState, Heard, accepted_by, conductor_did, finished, finished_by, gone_on, lines_now, moved, quieted, settled_by, settled_in, wanted, with_mark, with_record}
use Rattle.checkpoint_store.specs.Assembled.{assembled}
use Rattle.conductor_core.specs.declared.ending.Outcome.TheVariants as outcomes
use Rattle.conductor_core.specs.declared.wants.CutAnswer.TheVariants as answers
use Rattle.conductor_core.specs.declared.wants.CutMove.TheVariants as moves
use Rattle.conductor_core.specs.Tells.{IsKept, verdict_at}
use Rattle.conductor_core.specs.Verdicts.{difference_in, least_difference, least_from}
use Rattle.conductor_core.specs.Orders.{relined}
use Rattle.world_core.specs.Sound.{Sound}
use Rattle.world_core.specs.Still.{Afloat, Beside, IsPhase, IsPlain, plain_stamp}
use Rattle.world_core.specs.Worlds.{Setting, WorldState}
use Rattle.world_core.proofs.Due.{first, second}
use Rattle.iteration_agree.specs.Cuts.{quieted as cut_quieted}
use Rattle.run_ledger.specs.Lines.{accepted as accepted_line}

-- ---- equal verdicts name nobody

no_least : (all : List (Option Verdict)) → ((j : ℕ) (v : Verdict) → slice_index_or all j None ≡ Some v → v ≡ verdicts.Equal) → least_from None all ≡ None
no_least [] each = refl
no_least (x ∷ more) each = ap (λ f. least_from f more) (by x (each 0)) ∙ no_least more (λ j v h. each (suc j) v h)
  where
    by : (x : Option Verdict) → ((v : Verdict) → x ≡ Some v → v ≡ verdicts.Equal) → difference_in x ≡ None
    by None its = refl
    by (Some v) its = ap (λ (v : Verdict). difference_in (Some v)) (its v refl)

no_lines : (l : LedgerState) (script : List Fault) → map fault_of l.lines ≡ script → script ≡ [] → l.lines ≡ []
no_lines l script is none = by l.lines (is ∙ none)
  where
    by : (lines : List LedgerLine) → map fault_of lines ≡ [] → lines ≡ []
    by [] h = refl
    by (x ∷ more) h = absurd (let q : fault_of x ∷ map fault_of more ≡ [] = h in cc)

module _ (s : Setting) (o : Options) (plain : IsPlain s o) (w : WorldState) (sound : Sound s o w) (afloat : Afloat s w) (equal : EqualExactly) (k : ℕ) (agreed : w.conductor.phase ≡ phases.Agreed k) (wants : wanted w.conductor ≡ moves.Quiet) where
  abbrev c : ConductorState
  c = w.conductor

  -- both replicas run under no line
  same_lines : lines_of s.script c.first ≡ lines_of s.script c.second
  same_lines = ap (lines_of s.script) afloat.beside.first ∙ ap (lines_of s.script) (sym afloat.beside.second)

  each_equal : (j : ℕ) (v : Verdict) → verdict_at c.verdicts j ≡ Some v → v ≡ verdicts.Equal
  each_equal j v there =
      let kept : IsKept s.plan s.script s.place c.first c.second (phases.Agreed k) c.pieces j v = subst (λ p. IsKept s.plan s.script s.place c.first c.second p c.pieces j v) agreed (sound.conductor.kept j v there) in
      kept.compares ∙ (equal s.plan (node_records s.plan s.place (lines_of s.script c.first) k j) (node_records s.plan s.place (lines_of s.script c.second) k j)).1 (ap (λ l. node_records s.plan s.place l k j) same_lines)

  -- no element differs
  pub no_difference : least_difference c.verdicts ≡ None
  no_difference = no_least c.verdicts each_equal

  -- ---- the ledger takes the checkpoint

  next_is : is_next c.ledger k ≡ true
  next_is = by w.cut.round (subst (λ p. IsPhase c w.cut.floor p w.cut.round) agreed afloat.beside.phase)
    where
      by : (round : Round) → IsPhase c w.cut.floor (phases.Agreed k) round → is_next c.ledger k ≡ true
      by (rounds.Quiet r) h = absurd h
      by (rounds.Gather r f) h = absurd h
      by (rounds.Agreed r j) h = ap (is_next c.ledger) h.0 ∙ h.1

  no_crash : crash_free c.ledger k ≡ true
  no_crash = subst (λ lines. crash_free (record c.ledger { lines = lines }) k ≡ true) (sym (no_lines c.ledger s.script sound.conductor.recorded.faults plain.none)) refl

  all_hold : (a b d e : Bool) → a ≡ false → b ≡ true → d ≡ true → e ≡ true → first_false 1 (not a ∷ b ∷ d ∷ e ∷ []) ≡ None
  all_hold false true true true ha hb hd he = refl
  all_hold true b d e ha hb hd he = absurd (let q : true ≡ false = ha in cc)
  all_hold false false d e ha hb hd he = absurd (let q : false ≡ true = hb in cc)
  all_hold false true false e ha hb hd he = absurd (let q : false ≡ true = hd in cc)
  all_hold false true true false ha hb hd he = absurd (let q : false ≡ true = he in cc)

  pub accept_lawful : unlawful c.ledger (records.Accept k) ≡ None
  accept_lawful = all_hold c.ledger.ended (both_up c.ledger) (is_next c.ledger k) (crash_free c.ledger k) afloat.beside.unended afloat.beside.up next_is no_crash

  -- ---- it orders all slots to take their pieces, unless the run is over

  abbrev pub bytes : List ℕ
  bytes = assembled s.plan s.place (quieted c).pieces

  abbrev pub goes_on : Heard
  goes_on = gone_on (with_mark bytes (with_record (records.Accept k) (quieted c)))

  pub settles : conductor_did s.plan s.place answers.Nothing c ≡ finished bytes goes_on
  unfolding conductor_did
  settles = ap (λ m. moved s.plan s.place m answers.Nothing c) wants ∙ ap (λ p. settled_in s.plan s.place p c) agreed ∙ ap (λ e. settled_by s.plan s.place k e (quieted c)) no_difference ∙ ap (λ r. accepted_by r s.plan s.place k (quieted c)) accept_lawful

  -- where the run isn't over
  pub settles_on : (conductor_did s.plan s.place answers.Nothing c).conductor.outcome ≡ None → conductor_did s.plan s.place answers.Nothing c ≡ goes_on
  settles_on going = settles ∙ by (unlawful goes_on.conductor.ledger records.Done) (ap (λ (h : Heard). h.conductor.outcome) (sym settles) ∙ going)
    where
      by : (r : Option ℕ) → (finished_by r bytes goes_on).conductor.outcome ≡ None → finished_by r bytes goes_on ≡ goes_on
      by (Some which) h = refl
      by None h = absurd (let q : Some outcomes.Done ≡ None = h in cc)

  -- ---- the conductor beside the agreement, in the next round

  module _ (going : (conductor_did s.plan s.place answers.Nothing c).conductor.outcome ≡ None) where
    abbrev now : ConductorState
    now = goes_on.conductor

    pub behind : c.ledger.base < k
    behind = ltb-true c.ledger.base k (second (nat_le (due c.ledger) k) (nat_lt c.ledger.base k) (first (nat_le (due c.ledger) k && nat_lt c.ledger.base k) (nat_le k c.ledger.iterations) next_is))

    within : k ≤ c.ledger.iterations
    within = leb-true k c.ledger.iterations (second (nat_le (due c.ledger) k && nat_lt c.ledger.base k) (nat_le k c.ledger.iterations) next_is)

    -- it isn't the last iteration, else the run was over
    pub short : k < s.plan.iterations
    short = by (k == c.ledger.iterations) refl
      where
        over : (a b d : Bool) → a ≡ false → b ≡ true → d ≡ true → first_false 1 (not a ∷ b ∷ d ∷ []) ≡ None
        over false true true ha hb hd = refl
        over true b d ha hb hd = absurd (let q : true ≡ false = ha in cc)
        over false false d ha hb hd = absurd (let q : false ≡ true = hb in cc)
        over false true false ha hb hd = absurd (let q : false ≡ true = hd in cc)

        job : c.ledger.iterations ≡ s.plan.iterations
        job = sound.conductor.recorded.job

        by : (b : Bool) → (k == c.ledger.iterations) ≡ b → k < s.plan.iterations
        by false h = let a = within in let j = job in grind (arith, nat_tests, h, a, j)
        by true h =
            let lawful : unlawful now.ledger records.Done ≡ None = over c.ledger.ended (k == c.ledger.iterations) (both_up c.ledger) afloat.beside.unended h afloat.beside.up in
            let ends : Some outcomes.Done ≡ None = sym (ap (λ r. (finished_by r bytes goes_on).conductor.outcome) lawful) ∙ sym (ap (λ (h : Heard). h.conductor.outcome) settles) ∙ going in
            absurd (let q : Some outcomes.Done ≡ None = ends in cc)

    lines_none : c.ledger.lines ≡ []
    lines_none = no_lines c.ledger s.script sound.conductor.recorded.faults plain.none

    pub first_is : now.first ≡ plain_stamp 0
    first_is = ap (λ lines. relined (lines_now 0 (record (with_record (records.Accept k) (quieted c)) { ledger = record now.ledger { lines = map (accepted_line k) lines } })) c.first) lines_none ∙ ap (relined (record { 0 = 0 })) afloat.beside.first

    pub second_is : now.second ≡ plain_stamp 1
    second_is = ap (λ lines. relined (lines_now 1 (record (with_record (records.Accept k) (quieted c)) { ledger = record now.ledger { lines = map (accepted_line k) lines } })) c.second) lines_none ∙ ap (relined (record { 0 = 0 })) afloat.beside.second

    pub beside_next : Beside s (cut_quieted w.cut) now
    unfolding cut_quieted
    beside_next = record {
      phase = tt;
      both = afloat.beside.both;
      counted = let a = afloat.beside.counted in let b = behind in omega (arith, a, b);
      going = short;
      every = afloat.beside.every;
      unended = afloat.beside.unended;
      up = afloat.beside.up;
      first = first_is;
      second = second_is;
      noted = λ at slot h. absurd (let q : phases.Quiet ≡ phases.Gather = at in cc);
    }
