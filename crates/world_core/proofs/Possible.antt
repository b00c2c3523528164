-- Every event that can happen leaves less, so no run has more events than the turns of a schedule.
use Rattle.std.proofs.Common.{◌≡◌, ◌<◌, ◌≤◌, Bool, true, false, cond, List, [], ◌∷◌, length, refl, ap, sym, ◌∙◌, arith, subst, Option, Some, None}
use Rattle.std.specs.Prelude.{◌&&◌, is_none, is_some, not}
use Rattle.chare_base.specs.declared.options.Options.{Options}
use Rattle.chare_base.specs.declared.plan.ElementId.{ElementId}
use Rattle.chare_base.specs.declared.slots.SlotId.{SlotId}
use Rattle.buddy_compare.specs.Laws.{EqualExactly}
use Rattle.iteration_agree.specs.Laws.{AgreesUnlessMissing}
use Rattle.letter_post.specs.declared.letter.Letter.{Letter}
use Rattle.node_core.specs.Costs.{EachRuns, FirstRuns, HearsLower, PacksLower, RunsLower}
use Rattle.node_core.specs.Mail.{HearsMove, PacksMove, RunsMove}
use Rattle.node_core.specs.Nodes.{node_can_run, rests}
use Rattle.conductor_core.specs.declared.ending.Outcome.{Outcome}
use Rattle.conductor_core.specs.Conductors.{wanted}
use Rattle.conductor_core.specs.Tells.{MovesFit}
use Rattle.world_core.specs.declared.doing.Doing.{Doing}
use Rattle.world_core.specs.declared.doing.Doing.TheVariants as doings
use Rattle.world_core.specs.declared.doing.SlotMove.{SlotMove}
use Rattle.world_core.specs.declared.event.Event.{Event}
use Rattle.world_core.specs.declared.event.Event.TheVariants as events
use Rattle.world_core.specs.Bounds.{turns_bound}
use Rattle.world_core.specs.Costs.{CanHappen, EachEventLowers, NoRunIsLonger, going_left, world_left}
use Rattle.world_core.specs.Sound.{EveryEventKeeps, SlotSound, Sound, StartIsSound}
use Rattle.world_core.specs.Steps.{can_act, can_run_on, event_due, has_letter, is_enabled}
use Rattle.world_core.specs.Still.{Afloat, EveryEventKeepsAfloat, IsPlain, StartIsAfloat}
use Rattle.world_core.specs.Worlds.{Setting, SlotState, WorldState, after_slot, by_slot, conductor_made, does, happens, number_of, opening_world, slot_at, slot_heard, slot_move, slot_moved_by, slot_ran_by, stand, takes_move, move_due, told_by}
use Rattle.world_core.proofs.Conducted.{heard_lowers as desk_lowers}
use Rattle.world_core.proofs.Due.{first, none_is, second}
use Rattle.world_core.proofs.Ended.{lowers, made_lowers}
use Rattle.world_core.proofs.Lists.{all_got}
use Rattle.world_core.proofs.Lowering.{heard_lowers, moved_lowers, one_lowers}
use Rattle.world_core.proofs.Mailing.{slot_is}

not_true : (b : Bool) → not b ≡ true → b ≡ false
not_true false h = refl
not_true true h = absurd (let q : false ≡ true = h in cc)

module _ (firsts : FirstRuns) (each : EachRuns) (runs : RunsLower) (runs_move : RunsMove) (hears : HearsLower) (hears_move : HearsMove) (packs : PacksLower) (packs_move : PacksMove) (fit : MovesFit) (missing : AgreesUnlessMissing) (equal : EqualExactly) where
  module _ (s : Setting) (o : Options) (plain : IsPlain s o) (w : WorldState) (sound : Sound s o w) (afloat : Afloat s w) (going : w.conductor.outcome ≡ None) where
    abbrev Lowers : WorldState → Type 0
    Lowers next = world_left s next < world_left s w

    less : (next : WorldState) → going_left s next < going_left s w → Lowers next
    less = lowers firsts runs runs_move hears hears_move packs packs_move fit missing equal s o plain w sound afloat going

    -- what a slot can do
    module _ (slot : SlotId) (x : SlotState) (is : slot_at s.nodes w.posts.slots slot ≡ Some x) where
      its : SlotSound s w.cut w.conductor x
      its = all_got (SlotSound s w.cut w.conductor) w.posts.slots (number_of s.nodes slot) x sound.slots (slot_is s.nodes w.posts.slots slot x is).there

      run_acts : (e : ElementId) → can_run_on s.plan w.cut e (Some x) ≡ true → Lowers (after_slot s slot (does s w.cut (doings.Run e) x) w)
      run_acts e can =
          let both = first (not (rests x.node) && is_none x.back) (node_can_run s.plan (stand w.cut x.node.slot).top x.node e.0) can in
          let back = none_is x.back (second (not (rests x.node)) (is_none x.back) both) in
          let awake = not_true (rests x.node) (first (not (rests x.node)) (is_none x.back) both) in
          let runs_now = second (not (rests x.node) && is_none x.back) (node_can_run s.plan (stand w.cut x.node.slot).top x.node e.0) can in
          subst (λ q. Lowers (after_slot s slot (slot_ran_by s w.cut e x q) w)) (sym back)
          (less (after_slot s slot (slot_ran_by s w.cut e x None) w)
          (one_lowers s o plain w slot x is sound afloat runs runs_move e (each s.plan s.script s.place (stand w.cut x.node.slot).top e.0 x.node its.keeps awake runs_now)))

      hear_acts : (box : List Letter) → x.box ≡ box → has_letter box ≡ true → Lowers (after_slot s slot (slot_heard s w.cut x box) w)
      hear_acts [] front can = absurd (let q : false ≡ true = can in cc)
      hear_acts (letter ∷ more) front can = less (after_slot s slot (slot_heard s w.cut x (letter ∷ more)) w) (heard_lowers s o plain w slot x is sound afloat hears hears_move letter more front)

      move_acts : (q : Option SlotMove) → slot_move s.plan w.cut x ≡ q → is_some q ≡ true → Lowers (after_slot s slot (slot_moved_by s w.cut x q) w)
      move_acts None due can = absurd (let q : false ≡ true = can in cc)
      move_acts (Some m) due can = less (after_slot s slot (slot_moved_by s w.cut x (Some m)) w) (moved_lowers s o plain w slot x is sound afloat packs packs_move m due)

      acts : (d : Doing) → can_act s.plan w.cut d (Some x) ≡ true → Lowers (after_slot s slot (does s w.cut d x) w)
      acts doings.Hear can = hear_acts x.box refl can
      acts doings.Move can = move_acts (slot_move s.plan w.cut x) refl can
      acts (doings.Run e) can = run_acts e can

    no_slot : (d : Doing) → can_act s.plan w.cut d None ≡ true → ⊥
    no_slot doings.Hear can = let q : false ≡ true = can in cc
    no_slot doings.Move can = let q : false ≡ true = can in cc
    no_slot (doings.Run e) can = let q : false ≡ true = can in cc

    by_slot_lowers : (slot : SlotId) (d : Doing) → can_act s.plan w.cut d (slot_at s.nodes w.posts.slots slot) ≡ true → Lowers (by_slot s slot w (does s w.cut d) (slot_at s.nodes w.posts.slots slot))
    by_slot_lowers slot d can = by (slot_at s.nodes w.posts.slots slot) refl can
      where
        by : (q : Option SlotState) → slot_at s.nodes w.posts.slots slot ≡ q → can_act s.plan w.cut d q ≡ true → Lowers (by_slot s slot w (does s w.cut d) q)
        by None is can = absurd (no_slot d can)
        by (Some x) is can = acts slot x is d can

    hear_lowers : (desk : List Letter) → w.posts.desk ≡ desk → has_letter desk ≡ true → Lowers (told_by s w desk)
    hear_lowers [] front can = absurd (let q : false ≡ true = can in cc)
    hear_lowers (letter ∷ more) front can = less (told_by s w (letter ∷ more)) (desk_lowers s w letter more front)

    due_lowers : (event : Event) → event_due s.plan s.nodes w event ≡ true → Lowers (happens s w event)
    unfolding happens
    due_lowers (events.Run slot e) can = by_slot_lowers slot (doings.Run e) can
    due_lowers (events.Hear slot) can = by_slot_lowers slot doings.Hear can
    due_lowers (events.Move slot) can = by_slot_lowers slot doings.Move can
    due_lowers events.ConductorHear can = hear_lowers w.posts.desk refl can
    due_lowers events.ConductorMove can =
        let takes = first (takes_move w.cut (wanted w.conductor)) (move_due w.cut w.conductor (wanted w.conductor)) can in
        let due = second (takes_move w.cut (wanted w.conductor)) (move_due w.cut w.conductor (wanted w.conductor)) can in
        subst (λ b. Lowers (cond b (conductor_made s w (wanted w.conductor)) w)) (sym takes)
        (made_lowers firsts runs runs_move hears hears_move packs packs_move fit missing equal s o plain w sound afloat going (wanted w.conductor) refl takes due)

  pub each_lowers : EachEventLowers
  unfolding is_enabled
  each_lowers s o w event plain sound afloat can = by w.conductor.outcome refl
    where
      by : (q : Option Outcome) → w.conductor.outcome ≡ q → world_left s (happens s w event) < world_left s w
      by None is = due_lowers s o plain w sound afloat is event (sym (ap (λ q. cond (is_some q) false (event_due s.plan s.nodes w event)) is) ∙ can)
      by (Some outcome) is = absurd (let q : false ≡ true = sym (ap (λ q. cond (is_some q) false (event_due s.plan s.nodes w event)) is) ∙ can in cc)

-- ---- whole runs

-- what can happen happens before the end
going_on : (s : Setting) (w : WorldState) (event : Event) → is_enabled s.plan s.nodes w event ≡ true → w.conductor.outcome ≡ None
unfolding is_enabled
going_on s w event can = by w.conductor.outcome refl
  where
    by : (q : Option Outcome) → w.conductor.outcome ≡ q → w.conductor.outcome ≡ None
    by None is = is
    by (Some outcome) is = absurd (let q : false ≡ true = sym (ap (λ q. cond (is_some q) false (event_due s.plan s.nodes w event)) is) ∙ can in cc)

module _ (starts : StartIsSound) (begins : StartIsAfloat) (keeps : EveryEventKeeps) (floats : EveryEventKeepsAfloat) (lower : EachEventLowers) where
  at_most : (s : Setting) (o : Options) (all : List Event) (w : WorldState) → IsPlain s o → Sound s o w → (w.conductor.outcome ≡ None → Afloat s w) → CanHappen s w all → length all ≤ world_left s w
  at_most s o [] w plain sound afloat can = omega arith
  at_most s o (event ∷ more) w plain sound afloat can =
      let going = going_on s w event can.0 in
      let falls = lower s o w event plain sound (afloat going) can.0 in
      let rest = at_most s o more (happens s w event) plain (keeps s o w event plain.placed plain.options sound) (λ goes. floats s o w event plain sound (afloat going) goes) can.1 in
      omega (arith, falls, rest)

  pub no_longer : ((s : Setting) (o : Options) → IsPlain s o → world_left s (opening_world s o) ≤ turns_bound s.plan 0 s.nodes) → NoRunIsLonger
  no_longer few s o all plain can =
      let most = at_most s o all (opening_world s o) plain (starts s o plain.placed plain.options) (λ goes. begins s o plain) can in
      let bound = few s o plain in
      omega (arith, most, bound)
