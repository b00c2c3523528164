-- No event of a run without faults loses anything.
use Rattle.std.proofs.Common.{◌≡◌, ℕ, Bool, true, false, cond, List, [], ◌∷◌, refl, ap, sym, ◌∙◌, arith, subst, Option, Some, None}
use Rattle.chare_base.specs.declared.options.Options.{Options}
use Rattle.iteration_agree.specs.declared.round.Taking.TheVariants as takings
use Rattle.buddy_compare.specs.Laws.{EqualExactly}
use Rattle.iteration_agree.specs.Cuts.{agreed, agreed_on, agreement, quieted}
use Rattle.iteration_agree.specs.Laws.{AgreesOnGreatest}
use Rattle.letter_post.specs.declared.letter.Letter.{Letter}
use Rattle.letter_post.specs.declared.letter.Letter.TheVariants as letters
use Rattle.node_core.specs.Mail.{HearsMove, PacksMove, RunsMove}
use Rattle.conductor_core.specs.declared.wants.CutAnswer.TheVariants as answers
use Rattle.conductor_core.specs.declared.wants.CutMove.{CutMove}
use Rattle.conductor_core.specs.declared.wants.CutMove.TheVariants as moves
use Rattle.conductor_core.specs.declared.wants.Phase.{Phase}
use Rattle.conductor_core.specs.declared.wants.Phase.TheVariants as phases
use Rattle.conductor_core.specs.Conductors.{conductor_did, conductor_heard, counts, moved, wanted, with_verdict}
use Rattle.conductor_core.specs.Tells.{IsAgreed, MoveFits, MovesFit}
use Rattle.world_core.specs.declared.doing.Doing.TheVariants as doings
use Rattle.world_core.specs.declared.event.Event.TheVariants as events
use Rattle.world_core.specs.Sound.{EveryEventKeeps, Sound}
use Rattle.world_core.specs.Still.{Afloat, EveryEventKeepsAfloat, IsPlain}
use Rattle.world_core.specs.Worlds.{Setting, SlotState, WorldState, again, conductor_made, conductor_moved, did_in, happens, in_cut, takes_move, told_by}
use Rattle.world_core.proofs.Agreeing.{agreed_afloat}
use Rattle.world_core.proofs.Marking.{look_afloat}
use Rattle.world_core.proofs.Quieting.{quiet_afloat}
use Rattle.world_core.proofs.Settling.{settles_on}
use Rattle.world_core.proofs.Stepping.{slot_afloat}
use Rattle.world_core.proofs.Telling.{heard_afloat}
use Rattle.world_core.proofs.Turning.{Alike, slot_turned, turned_afloat}

-- ---- an iteration is agreed on, or a slot is missing

module _ (s : Setting) (w : WorldState) (afloat : Afloat s w) where
  alike_itself : (x : SlotState) → Alike x (again s.plan w.cut x)
  alike_itself x = record { node = refl; box = refl; back = refl; since = refl }

  -- a move that changes nothing
  same_afloat : Afloat s (in_cut s.plan w.cut w)
  same_afloat = turned_afloat s w afloat w.cut w.conductor (again s.plan w.cut) alike_itself
      (record {
        ledger = refl;
        told = λ letter backed h. h;
        slots = λ m x there h. slot_turned s w.cut w.cut w.conductor w.conductor afloat.log x (again s.plan w.cut x) (record { round = refl; free = refl; packed = refl; cap = refl; top = refl; ledger = refl; agreed = λ k h. h }) (alike_itself x) (λ q. q) h;
        pairs = λ j hj x other b own there_x there_other one two alive theirs h. h;
        heard = afloat.heard;
        beside = afloat.beside;
      })

agree_afloat : (s : Setting) (o : Options) → IsPlain s o → AgreesOnGreatest → (w : WorldState) → Sound s o w → Afloat s w → w.conductor.phase ≡ phases.Gather → wanted w.conductor ≡ moves.Agree takings.Both → Afloat s (conductor_made s w (moves.Agree takings.Both))
unfolding conductor_did agreed
agree_afloat s o plain law w sound afloat gathers is =
    subst (λ m. Afloat s (did_in s (moved s.plan s.place m (answers.Agreed (agreement takings.Both w.cut)) w.conductor) (in_cut s.plan (agreed_on takings.Both w.cut (agreement takings.Both w.cut)) w))) (sym is) (by (agreement takings.Both w.cut) refl)
  where
    by : (q : Option ℕ) → agreement takings.Both w.cut ≡ q → Afloat s (did_in s (moved s.plan s.place (moves.Agree takings.Both) (answers.Agreed q) w.conductor) (in_cut s.plan (agreed_on takings.Both w.cut q) w))
    by None on = same_afloat s w afloat
    by (Some k) on = agreed_afloat s o plain w sound afloat law gathers k on

-- ---- the round is made quiet

pub agreed_phase : (phase : Phase) → IsAgreed phase → (k : ℕ) × (phase ≡ phases.Agreed k)
agreed_phase phases.Quiet h = absurd h
agreed_phase phases.Gather h = absurd h
agreed_phase (phases.Agreed k) h = (k, refl)

quiet_move : (s : Setting) (o : Options) (w : WorldState) → IsPlain s o → MovesFit → EqualExactly → Sound s o w → Afloat s w → wanted w.conductor ≡ moves.Quiet → Sound s o (conductor_moved s w moves.Quiet) → (conductor_moved s w moves.Quiet).conductor.outcome ≡ None →
    Afloat s (conductor_moved s w moves.Quiet)
quiet_move s o w plain fit equal sound afloat is next going = by (takes_move w.cut moves.Quiet) next going
  where
    agreed : (k : ℕ) × (w.conductor.phase ≡ phases.Agreed k)
    agreed = agreed_phase w.conductor.phase (subst (MoveFits s.plan o.nodes w.conductor) is (fit s.plan s.script o s.place w.conductor (let a = plain.some in let b = plain.options.nodes in omega (arith, a, b)) sound.conductor))

    by : (b : Bool) → Sound s o (cond b (conductor_made s w moves.Quiet) w) → (cond b (conductor_made s w moves.Quiet) w).conductor.outcome ≡ None → Afloat s (cond b (conductor_made s w moves.Quiet) w)
    by false n g = afloat
    by true n g =
        let settled = settles_on s o plain w sound afloat equal agreed.0 agreed.1 is g in
        subst (λ h. Afloat s (did_in s h (in_cut s.plan (quieted w.cut) w))) (sym settled)
        (quiet_afloat s o plain w sound afloat equal agreed.0 agreed.1 is g (subst (λ h. Sound s o (did_in s h (in_cut s.plan (quieted w.cut) w))) settled n))

-- ---- the outcome

-- a letter leaves it
pub heard_outcome : (s : Setting) (w : WorldState) (desk : List Letter) → (told_by s w desk).conductor.outcome ≡ w.conductor.outcome
unfolding conductor_heard
heard_outcome s w [] = refl
heard_outcome s w (letters.Parcel stamp entry k to payload ∷ more) = refl
heard_outcome s w (letters.Partial stamp r k node value ∷ more) = refl
heard_outcome s w (letters.Total stamp r k value ∷ more) = refl
heard_outcome s w (letters.Piece stamp piece ∷ more) = refl
heard_outcome s w (letters.VerdictOf one two node k verdict piece ∷ more) = by (counts one two node k w.conductor)
  where
    by : (b : Bool) → (cond b (with_verdict node verdict piece w.conductor) w.conductor).outcome ≡ w.conductor.outcome
    by true = refl
    by false = refl
heard_outcome s w (letters.Lend k fresh ∷ more) = refl
heard_outcome s w (letters.Take stamp k live piece ∷ more) = refl
heard_outcome s w (letters.Restore stamp k live ∷ more) = refl
heard_outcome s w (letters.Commit stamp k live ∷ more) = refl
heard_outcome s w (letters.Resume stamp ∷ more) = refl
heard_outcome s w (letters.Died stamp slot line ∷ more) = refl
heard_outcome s w (letters.Stop ∷ more) = refl

-- ---- every event

module _ (runs : RunsMove) (packs : PacksMove) (hears : HearsMove) (fit : MovesFit) (greatest : AgreesOnGreatest) (equal : EqualExactly) (keeps : EveryEventKeeps) where
  move_afloat : (s : Setting) (o : Options) (w : WorldState) → IsPlain s o → Sound s o w → Afloat s w → (m : CutMove) → wanted w.conductor ≡ m → Sound s o (conductor_moved s w m) → (conductor_moved s w m).conductor.outcome ≡ None →
      Afloat s (conductor_moved s w m)
  move_afloat s o w plain sound afloat moves.None is next going = look_afloat s o plain fit w sound afloat moves.None is tt
  move_afloat s o w plain sound afloat (moves.Look slot) is next going = look_afloat s o plain fit w sound afloat (moves.Look slot) is tt
  move_afloat s o w plain sound afloat (moves.OpenRound floor) is next going = look_afloat s o plain fit w sound afloat (moves.OpenRound floor) is tt
  move_afloat s o w plain sound afloat (moves.Note slot) is next going = look_afloat s o plain fit w sound afloat (moves.Note slot) is tt
  move_afloat s o w plain sound afloat moves.Quiet is next going = quiet_move s o w plain fit equal sound afloat is next going
  move_afloat s o w plain sound afloat (moves.Agree taking) is next going = by (takes_move w.cut (moves.Agree taking)) made
    where
      fits : MoveFits s.plan o.nodes w.conductor (moves.Agree taking)
      fits = subst (MoveFits s.plan o.nodes w.conductor) is (fit s.plan s.script o s.place w.conductor (let a = plain.some in let b = plain.options.nodes in omega (arith, a, b)) sound.conductor)

      made : Afloat s (conductor_made s w (moves.Agree taking))
      made = subst (λ t. Afloat s (conductor_made s w (moves.Agree t))) (sym fits.1) (agree_afloat s o plain greatest w sound afloat fits.0 (is ∙ ap moves.Agree fits.1))

      by : (b : Bool) → Afloat s (conductor_made s w (moves.Agree taking)) → Afloat s (cond b (conductor_made s w (moves.Agree taking)) w)
      by true h = h
      by false h = afloat

  pub event_afloat : EveryEventKeepsAfloat
  unfolding happens
  event_afloat s o w (events.Run slot e) plain sound afloat going = slot_afloat s o plain runs packs hears w sound afloat slot (doings.Run e) (keeps s o w (events.Run slot e) plain.placed plain.options sound)
  event_afloat s o w (events.Hear slot) plain sound afloat going = slot_afloat s o plain runs packs hears w sound afloat slot doings.Hear (keeps s o w (events.Hear slot) plain.placed plain.options sound)
  event_afloat s o w (events.Move slot) plain sound afloat going = slot_afloat s o plain runs packs hears w sound afloat slot doings.Move (keeps s o w (events.Move slot) plain.placed plain.options sound)
  event_afloat s o w events.ConductorHear plain sound afloat going = heard_afloat s w afloat (sym (heard_outcome s w w.posts.desk) ∙ going) w.posts.desk refl
  event_afloat s o w events.ConductorMove plain sound afloat going = move_afloat s o w plain sound afloat (wanted w.conductor) refl (keeps s o w events.ConductorMove plain.placed plain.options sound) going
