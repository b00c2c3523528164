-- Every world that is reached without faults is afloat until its run ends, so it stands still only then.
use Rattle.std.proofs.Common.{◌≡◌, cond, List, [], ◌∷◌, refl, ap, sym, ◌∙◌, Option, Some, None, IsSome}
use Rattle.std.specs.Prelude.{is_some}
use Rattle.chare_base.specs.declared.options.Options.{Options}
use Rattle.chare_base.specs.declared.slots.SlotId.{SlotId}
use Rattle.conductor_core.specs.declared.ending.Outcome.{Outcome}
use Rattle.conductor_core.specs.declared.wants.CutMove.TheVariants as moves
use Rattle.conductor_core.specs.Conductors.{ConductorState, move_in, wanted}
use Rattle.world_core.specs.declared.doing.Doing.TheVariants as doings
use Rattle.world_core.specs.declared.event.Event.{Event}
use Rattle.world_core.specs.declared.event.Event.TheVariants as events
use Rattle.world_core.specs.Sound.{EveryEventKeeps, EveryWorldIsSound, Sound, StartIsSound}
use Rattle.world_core.specs.Still.{Afloat, EveryEventKeepsAfloat, EveryWorldStaysAfloat, IsPlain, NeverStandsStill, NoStandstill, StartIsAfloat}
use Rattle.world_core.specs.Worlds.{Acted, Setting, SlotState, WorldState, by_slot, conductor_moved, does, happens, opening_world, reached, slot_at}
use Rattle.world_core.proofs.Happening.{heard_outcome}

-- ---- the outcome stays

of_slot : (s : Setting) (slot : SlotId) (w : WorldState) (acts : SlotState → Acted) (q : Option SlotState) → (by_slot s slot w acts q).conductor.outcome ≡ w.conductor.outcome
of_slot s slot w acts None = refl
of_slot s slot w acts (Some x) = refl

wants_none : (c : ConductorState) → IsSome c.outcome → wanted c ≡ moves.None
unfolding wanted
wants_none c ended = ap (λ b. cond b moves.None (move_in c c.phase)) ended

pub none_before : (s : Setting) (w : WorldState) (event : Event) → (happens s w event).conductor.outcome ≡ None → w.conductor.outcome ≡ None
unfolding happens
none_before s w (events.Run slot e) h = sym (of_slot s slot w (does s w.cut (doings.Run e)) (slot_at s.nodes w.posts.slots slot)) ∙ h
none_before s w (events.Hear slot) h = sym (of_slot s slot w (does s w.cut doings.Hear) (slot_at s.nodes w.posts.slots slot)) ∙ h
none_before s w (events.Move slot) h = sym (of_slot s slot w (does s w.cut doings.Move) (slot_at s.nodes w.posts.slots slot)) ∙ h
none_before s w events.ConductorHear h = sym (heard_outcome s w w.posts.desk) ∙ h
none_before s w events.ConductorMove h = by w.conductor.outcome refl
  where
    by : (q : Option Outcome) → w.conductor.outcome ≡ q → w.conductor.outcome ≡ None
    by None is = is
    by (Some outcome) is = sym (ap (λ m. (conductor_moved s w m).conductor.outcome) (wants_none w.conductor (ap (λ q. is_some q) is))) ∙ h

-- ---- after all events

module _ (starts : StartIsSound) (begins : StartIsAfloat) (keeps : EveryEventKeeps) (floats : EveryEventKeepsAfloat) where
  after_all : (s : Setting) (o : Options) (w : WorldState) (all : List Event) → IsPlain s o → Sound s o w → (w.conductor.outcome ≡ None → Afloat s w) → (reached s w all).conductor.outcome ≡ None → Afloat s (reached s w all)
  after_all s o w [] plain sound afloat going = afloat going
  after_all s o w (event ∷ more) plain sound afloat going =
      after_all s o (happens s w event) more plain (keeps s o w event plain.placed plain.options sound) (λ goes. floats s o w event plain sound (afloat (none_before s w event goes)) goes) going

  pub every_world_afloat : EveryWorldStaysAfloat
  every_world_afloat s o all plain going = after_all s o (opening_world s o) all plain (starts s o plain.placed plain.options) (λ goes. begins s o plain) going

pub never_still : EveryWorldIsSound → EveryWorldStaysAfloat → NoStandstill → NeverStandsStill
never_still sound afloat stands s o all plain still = by (reached s (opening_world s o) all).conductor.outcome refl
  where
    by : (q : Option Outcome) → (reached s (opening_world s o) all).conductor.outcome ≡ q → IsSome (reached s (opening_world s o) all).conductor.outcome
    by (Some outcome) is = ap (λ q. is_some q) is
    by None is = stands s o (reached s (opening_world s o) all) plain (sound s o all plain.placed plain.options) (afloat s o all plain is) still
