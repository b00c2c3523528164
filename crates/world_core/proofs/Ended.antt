-- Every event that an actor has leaves less, so every schedule ends its run.
use Rattle.std.proofs.Common.{◌≡◌, ℕ, zero, suc, ◌+◌, ◌*◌, ◌<◌, ◌≤◌, Bool, true, false, cond, List, [], ◌∷◌, length, refl, ap, sym, ◌∙◌, arith, subst, Option, Some, None, IsSome}
use Rattle.std.specs.Prelude.{◌-◌, ◌/◌, ◌^◌, is_some, nat_lt, slice_get}
use Rattle.std.specs.List.{AllByRecursion}
use Rattle.std.proofs.lemmas.Bool.Decides.{nat_tests}
use Rattle.std.proofs.lemmas.Nat.{mod_below}
use Rattle.std.proofs.lemmas.Option.{same_Some}
use Rattle.chare_base.specs.declared.options.Options.{Options}
use Rattle.chare_base.specs.declared.slots.SlotId.{SlotId}
use Rattle.buddy_compare.specs.Laws.{EqualExactly}
use Rattle.iteration_agree.specs.declared.round.Taking.TheVariants as takings
use Rattle.iteration_agree.specs.Laws.{AgreesUnlessMissing}
use Rattle.letter_post.specs.declared.letter.Letter.{Letter}
use Rattle.node_core.specs.Costs.{FirstRuns, HearsLower, PacksLower, RunsLower}
use Rattle.node_core.specs.Mail.{HearsMove, PacksMove, RunsMove}
use Rattle.conductor_core.specs.declared.ending.Outcome.{Outcome}
use Rattle.conductor_core.specs.declared.wants.CutAnswer.TheVariants as answers
use Rattle.conductor_core.specs.declared.wants.CutMove.{CutMove}
use Rattle.conductor_core.specs.declared.wants.CutMove.TheVariants as moves
use Rattle.conductor_core.specs.declared.wants.Phase.TheVariants as phases
use Rattle.conductor_core.specs.Conductors.{conductor_did, wanted}
use Rattle.conductor_core.specs.Tells.{MoveFits, MovesFit}
use Rattle.world_core.specs.declared.doing.Doing.{Doing}
use Rattle.world_core.specs.declared.doing.Doing.TheVariants as doings
use Rattle.world_core.specs.declared.event.Actor.{Actor}
use Rattle.world_core.specs.declared.event.Actor.TheVariants as actors
use Rattle.world_core.specs.declared.event.Chooser.{Chooser}
use Rattle.world_core.specs.declared.event.Chooser.TheVariants as choosers
use Rattle.world_core.specs.declared.event.Event.{Event}
use Rattle.world_core.specs.declared.event.Event.TheVariants as events
use Rattle.world_core.specs.Costs.{EveryEventLowers, EveryScheduleEnds, going_left, world_left}
use Rattle.world_core.specs.Sound.{EveryEventKeeps, Sound, StartIsSound}
use Rattle.world_core.specs.Still.{Afloat, EveryEventKeepsAfloat, IsPlain, IsStill, NoStandstill, StartIsAfloat}
use Rattle.world_core.specs.Worlds.{Setting, SlotState, WorldState, actor_at, actor_event, after_slot, by_slot, chosen_of, conductor_due, conductor_made, desk_event, does, drawn, enabled, event_at, event_of, first_above, first_or, goes_on, happens, move_due, number_of, opening_world, picked, picked_by, picked_event, reached, ready_actors, ready_from, slot_at, slot_doing, slot_event, stirred, takes_move, told_by}
use Rattle.world_core.proofs.Conducted.{agree_lowers, heard_lowers, look_lowers, note_lowers, open_lowers, quiet_lowers}
use Rattle.world_core.proofs.Due.{first, second}
use Rattle.world_core.proofs.Happening.{agreed_phase}
use Rattle.world_core.proofs.Lists.{all_got}
use Rattle.world_core.proofs.Lowering.{slot_event_lowers}
use Rattle.world_core.proofs.Mailing.{IsNamed, place_is, slot_is}
use Rattle.world_core.proofs.Reached.{none_before}

-- ---- one event

world_is : (s : Setting) (w : WorldState) → w.conductor.outcome ≡ None → world_left s w ≡ suc (going_left s w)
unfolding world_left
world_is s w going = ap (λ q. cond (is_some q) 0 (suc (going_left s w))) going

world_most : (s : Setting) (w : WorldState) → world_left s w ≤ suc (going_left s w)
unfolding world_left
world_most s w = by (is_some w.conductor.outcome)
  where
    by : (b : Bool) → cond b 0 (suc (going_left s w)) ≤ suc (going_left s w)
    by true = omega arith
    by false = omega arith

world_over : (s : Setting) (w : WorldState) (outcome : Outcome) → w.conductor.outcome ≡ Some outcome → world_left s w ≡ 0
unfolding world_left
world_over s w outcome is = ap (λ q. cond (is_some q) 0 (suc (going_left s w))) is

module _ (firsts : FirstRuns) (runs : RunsLower) (runs_move : RunsMove) (hears : HearsLower) (hears_move : HearsMove) (packs : PacksLower) (packs_move : PacksMove) (fit : MovesFit) (missing : AgreesUnlessMissing) (equal : EqualExactly) where
  module _ (s : Setting) (o : Options) (plain : IsPlain s o) (w : WorldState) (sound : Sound s o w) (afloat : Afloat s w) (going : w.conductor.outcome ≡ None) where
    abbrev Lowers : WorldState → Type 0
    Lowers next = world_left s next < world_left s w

    pub lowers : (next : WorldState) → going_left s next < going_left s w → Lowers next
    lowers next less = let most = world_most s next in let now = world_is s w going in omega (arith, less, most, now)

    -- by a slot
    slot_lowers : (slot : SlotId) (event : Event) → slot_event s.plan w.cut slot (slot_at s.nodes w.posts.slots slot) ≡ Some event → Lowers (happens s w event)
    unfolding happens
    slot_lowers slot event h = by (slot_at s.nodes w.posts.slots slot) refl h
      where
        its : (d : Doing) → event_of slot (Some d) ≡ Some event → (x : SlotState) → slot_at s.nodes w.posts.slots slot ≡ Some x → going_left s (after_slot s slot (does s w.cut d x) w) < going_left s w → Lowers (happens s w event)
        its doings.Hear same x is less =
            subst (λ e. Lowers (happens s w e)) (same_Some (events.Hear slot) event same)
            (subst (λ q. Lowers (by_slot s slot w (does s w.cut doings.Hear) q)) (sym is) (lowers (after_slot s slot (does s w.cut doings.Hear x) w) less))
        its doings.Move same x is less =
            subst (λ e. Lowers (happens s w e)) (same_Some (events.Move slot) event same)
            (subst (λ q. Lowers (by_slot s slot w (does s w.cut doings.Move) q)) (sym is) (lowers (after_slot s slot (does s w.cut doings.Move x) w) less))
        its (doings.Run e) same x is less =
            subst (λ e. Lowers (happens s w e)) (same_Some (events.Run slot e) event same)
            (subst (λ q. Lowers (by_slot s slot w (does s w.cut (doings.Run e)) q)) (sym is) (lowers (after_slot s slot (does s w.cut (doings.Run e) x) w) less))

        by : (q : Option SlotState) → slot_at s.nodes w.posts.slots slot ≡ q → slot_event s.plan w.cut slot q ≡ Some event → Lowers (happens s w event)
        by None is h = absurd (let e : None ≡ Some event = h in cc)
        by (Some x) is h = does_it (slot_doing s.plan w.cut x) refl h
          where
            does_it : (q : Option Doing) → slot_doing s.plan w.cut x ≡ q → event_of slot q ≡ Some event → Lowers (happens s w event)
            does_it None doing h = absurd (let e : None ≡ Some event = h in cc)
            does_it (Some d) doing h = its d h x is (slot_event_lowers s o plain w slot x is sound afloat firsts runs runs_move hears hears_move packs packs_move d doing)

    -- by the conductor
    fits : (m : CutMove) → wanted w.conductor ≡ m → MoveFits s.plan o.nodes w.conductor m
    fits m is = subst (MoveFits s.plan o.nodes w.conductor) is (fit s.plan s.script o s.place w.conductor (let a = plain.some in let b = plain.options.nodes in omega (arith, a, b)) sound.conductor)

    pub made_lowers : (m : CutMove) → wanted w.conductor ≡ m → takes_move w.cut m ≡ true → move_due w.cut w.conductor m ≡ true → Lowers (conductor_made s w m)
    made_lowers moves.None is takes due = absurd (let e : false ≡ true = takes in cc)
    made_lowers (moves.Look slot) is takes due = lowers (conductor_made s w (moves.Look slot)) (look_lowers s o plain fit w sound afloat going slot (let f = (fits (moves.Look slot) is).1 in in_cut_nodes slot f.0 f.1) is due)
      where
        in_cut_nodes : (slot : SlotId) → slot.replica ≤ 1 → slot.node < o.nodes → (slot.replica ≤ 1) × (slot.node < w.cut.nodes)
        in_cut_nodes slot few less = (few, let a = plain.options.nodes in let b = sound.nodes in omega (arith, less, a, b))
    made_lowers (moves.OpenRound floor) is takes due = lowers (conductor_made s w (moves.OpenRound floor)) (open_lowers s o plain fit w sound afloat going floor is)
    made_lowers (moves.Note slot) is takes due = lowers (conductor_made s w (moves.Note slot)) (note_lowers s o plain fit w sound afloat going slot (let f = (fits (moves.Note slot) is).1 in (f.0, let less = f.1 in let a = plain.options.nodes in let b = sound.nodes in omega (arith, less, a, b))) is due)
    made_lowers (moves.Agree taking) is takes due =
        let both : taking ≡ takings.Both = (fits (moves.Agree taking) is).1 in
        subst (λ t. Lowers (conductor_made s w (moves.Agree t))) (sym both) (lowers (conductor_made s w (moves.Agree takings.Both)) (agree_lowers s o plain fit w sound afloat going missing (is ∙ ap moves.Agree both)))
    made_lowers moves.Quiet is takes due = by (conductor_did s.plan s.place answers.Nothing w.conductor).conductor.outcome refl
      where
        agreed : (k : ℕ) × (w.conductor.phase ≡ phases.Agreed k)
        agreed = agreed_phase w.conductor.phase (fits moves.Quiet is)

        by : (q : Option Outcome) → (conductor_did s.plan s.place answers.Nothing w.conductor).conductor.outcome ≡ q → Lowers (conductor_made s w moves.Quiet)
        by None goes = lowers (conductor_made s w moves.Quiet) (quiet_lowers s o plain fit w sound afloat going equal agreed.0 agreed.1 is goes)
        by (Some outcome) ends = let over = world_over s (conductor_made s w moves.Quiet) outcome ends in let now = world_is s w going in omega (arith, over, now)

    desk_lowers : (event : Event) → desk_event w w.posts.desk ≡ Some event → Lowers (happens s w event)
    unfolding happens
    desk_lowers event h = by w.posts.desk refl h
      where
        by : (desk : List Letter) → w.posts.desk ≡ desk → desk_event w desk ≡ Some event → Lowers (happens s w event)
        by (letter ∷ more) is h =
            subst (λ e. Lowers (happens s w e)) (same_Some events.ConductorHear event h)
            (subst (λ desk. Lowers (told_by s w desk)) (sym is) (lowers (told_by s w (letter ∷ more)) (heard_lowers s w letter more is)))
        by [] is h = due (conductor_due w) refl h
          where
            due : (b : Bool) → conductor_due w ≡ b → cond b (Some events.ConductorMove) None ≡ Some event → Lowers (happens s w event)
            due false not_due h = absurd (let e : None ≡ Some event = h in cc)
            due true is_due h =
                let takes : takes_move w.cut (wanted w.conductor) ≡ true = first (takes_move w.cut (wanted w.conductor)) (move_due w.cut w.conductor (wanted w.conductor)) is_due in
                let moves_now : move_due w.cut w.conductor (wanted w.conductor) ≡ true = second (takes_move w.cut (wanted w.conductor)) (move_due w.cut w.conductor (wanted w.conductor)) is_due in
                subst (λ e. Lowers (happens s w e)) (same_Some events.ConductorMove event h)
                (subst (λ b. Lowers (cond b (conductor_made s w (wanted w.conductor)) w)) (sym takes) (made_lowers (wanted w.conductor) refl takes moves_now))

  pub event_lowers : EveryEventLowers
  unfolding enabled
  event_lowers s o w actor event plain sound afloat h = by w.conductor.outcome refl h
    where
      of : (actor : Actor) → w.conductor.outcome ≡ None → actor_event s.plan s.nodes w actor ≡ Some event → world_left s (happens s w event) < world_left s w
      of (actors.Slot slot) going h = slot_lowers s o plain w sound afloat going slot event h
      of actors.Conductor going h = desk_lowers s o plain w sound afloat going event h

      by : (q : Option Outcome) → w.conductor.outcome ≡ q → cond (is_some w.conductor.outcome) None (actor_event s.plan s.nodes w actor) ≡ Some event → world_left s (happens s w event) < world_left s w
      by None is h = of actor is (sym (ap (λ q. cond (is_some q) None (actor_event s.plan s.nodes w actor)) is) ∙ h)
      by (Some outcome) is h = absurd (let e : None ≡ Some event = sym (ap (λ q. cond (is_some q) None (actor_event s.plan s.nodes w actor)) is) ∙ h in cc)

-- ---- whom a chooser takes

first_among : (P : ℕ → Type 0) (last i : ℕ) (all : List ℕ) → AllByRecursion P all → first_above last all ≡ Some i → P i
first_among P last i [] each h = absurd (let e : None ≡ Some i = h in cc)
first_among P last i (x ∷ more) each h = by (nat_lt last x) h (first_among P last i more each.1)
  where
    by : (b : Bool) → cond b (Some x) (first_above last more) ≡ Some i → (first_above last more ≡ Some i → P i) → P i
    by true h rest = subst P (same_Some x i h) each.0
    by false h rest = rest h

-- one of those that it may take
chosen_among : (P : ℕ → Type 0) (chooser : Chooser) (i : ℕ) (all : List ℕ) → AllByRecursion P all → chosen_of chooser all ≡ Some i → P i
chosen_among P (choosers.Round last) i all each h = by (first_above last all) refl h
  where
    by : (q : Option ℕ) → first_above last all ≡ q → first_or all q ≡ Some i → P i
    by (Some j) is h = first_among P last i all each (is ∙ h)
    by None is h = all_got P all 0 i each h
chosen_among P (choosers.Draw random) i all each h = all_got P all (drawn (stirred random) (length all)) i each h

got_below : {A : Type 0} (xs : List A) (i : ℕ) → i < length xs → (x : A) × (slice_get xs i ≡ Some x)
got_below [] i less = absurd (omega (arith, less))
got_below (x ∷ xs) zero less = (x, refl)
got_below (x ∷ xs) (suc i) less = got_below xs i (omega (arith, less))

-- one, where there is one
chosen_none : (chooser : Chooser) (all : List ℕ) → chosen_of chooser all ≡ None → all ≡ []
chosen_none chooser [] h = refl
chosen_none (choosers.Round last) (x ∷ more) h = absurd (by (first_above last (x ∷ more)) h)
  where
    by : (q : Option ℕ) → first_or (x ∷ more) q ≡ None → ⊥
    by (Some j) h = let e : Some j ≡ None = h in cc
    by None h = let e : Some x ≡ None = h in cc
chosen_none (choosers.Draw random) (x ∷ more) h =
    let some : 0 < length (x ∷ more) = omega arith in
    let there = got_below (x ∷ more) (drawn (stirred random) (length (x ∷ more))) (mod_below (stirred random / 2 ^ 33) (length (x ∷ more)) some) in
    absurd (let e : None ≡ Some there.0 = sym h ∙ there.1 in cc)

-- a name that no slot has is no actor with an event
no_slot : (s : Setting) (w : WorldState) (slot : SlotId) → slot_at s.nodes w.posts.slots slot ≡ None → enabled s.plan s.nodes w (actors.Slot slot) ≡ None
unfolding enabled
no_slot s w slot is = by (is_some w.conductor.outcome)
  where
    by : (b : Bool) → cond b None (slot_event s.plan w.cut slot (slot_at s.nodes w.posts.slots slot)) ≡ None
    by true = refl
    by false = ap (slot_event s.plan w.cut slot) is

-- ---- actors with events

module _ (s : Setting) (w : WorldState) where
  abbrev Has : ℕ → Type 0
  Has i = is_some (enabled s.plan s.nodes w (actor_at s.nodes i)) ≡ true

  ready_have : (i n : ℕ) → AllByRecursion Has (ready_from s.plan s.nodes w i n)
  ready_have i zero = tt
  ready_have i (suc n) = by (is_some (enabled s.plan s.nodes w (actor_at s.nodes i))) refl (ready_have (suc i) n)
    where
      by : (b : Bool) → is_some (enabled s.plan s.nodes w (actor_at s.nodes i)) ≡ b → AllByRecursion Has (ready_from s.plan s.nodes w (suc i) n) → AllByRecursion Has (cond b (i ∷ ready_from s.plan s.nodes w (suc i) n) (ready_from s.plan s.nodes w (suc i) n))
      by true is rest = (is, rest)
      by false is rest = rest

  none_of : (q : Option Event) → is_some q ≡ false → q ≡ None
  none_of None h = refl
  none_of (Some event) h = absurd (let e : true ≡ false = h in cc)

  -- where nobody has one
  nobody_from : (i n j : ℕ) → ready_from s.plan s.nodes w i n ≡ [] → j < n → enabled s.plan s.nodes w (actor_at s.nodes (i + j)) ≡ None
  nobody_from i zero j h less = absurd (omega (arith, less))
  nobody_from i (suc n) j h less = by (is_some (enabled s.plan s.nodes w (actor_at s.nodes i))) refl h j less (nobody_from (suc i) n)
    where
      by : (b : Bool) → is_some (enabled s.plan s.nodes w (actor_at s.nodes i)) ≡ b → cond b (i ∷ ready_from s.plan s.nodes w (suc i) n) (ready_from s.plan s.nodes w (suc i) n) ≡ [] → (j : ℕ) → j < suc n →
          ((j : ℕ) → ready_from s.plan s.nodes w (suc i) n ≡ [] → j < n → enabled s.plan s.nodes w (actor_at s.nodes (suc i + j)) ≡ None) → enabled s.plan s.nodes w (actor_at s.nodes (i + j)) ≡ None
      by true is h j less rest = absurd (let e : i ∷ ready_from s.plan s.nodes w (suc i) n ≡ [] = h in cc)
      by false is h zero less rest = let at : i + 0 ≡ i = omega arith in ap (λ m. enabled s.plan s.nodes w (actor_at s.nodes m)) at ∙ none_of (enabled s.plan s.nodes w (actor_at s.nodes i)) is
      by false is h (suc j) less rest = let at : i + suc j ≡ suc i + j = omega arith in ap (λ m. enabled s.plan s.nodes w (actor_at s.nodes m)) at ∙ rest j h (omega (arith, less))

  actor_last : (nodes : ℕ) → actor_at nodes (nodes + nodes) ≡ actors.Conductor
  actor_last nodes = by (nat_lt (nodes + nodes) nodes) (nat_lt (nodes + nodes) (nodes + nodes)) (grind (arith, nat_tests)) (grind (arith, nat_tests))
    where
      by : (a b : Bool) → a ≡ false → b ≡ false → cond a (actors.Slot (record { replica = 0; node = nodes + nodes })) (cond b (actors.Slot (record { replica = 1; node = nodes + nodes - nodes })) actors.Conductor) ≡ actors.Conductor
      by false false ha hb = refl
      by true b ha hb = absurd (let e : true ≡ false = ha in cc)
      by false true ha hb = absurd (let e : true ≡ false = hb in cc)

  actor_named : (nodes r j : ℕ) → r ≤ 1 → j < nodes → actor_at nodes (r * nodes + j) ≡ actors.Slot (record { replica = r; node = j })
  actor_named nodes zero j few less = by (nat_lt (0 * nodes + j) nodes) (grind (arith, nat_tests, less))
    where
      by : (a : Bool) → a ≡ true → cond a (actors.Slot (record { replica = 0; node = 0 * nodes + j })) (cond (nat_lt (0 * nodes + j) (nodes + nodes)) (actors.Slot (record { replica = 1; node = 0 * nodes + j - nodes })) actors.Conductor) ≡ actors.Slot (record { replica = 0; node = j })
      by true ha = ap (λ m. actors.Slot (record { replica = 0; node = m })) (omega arith)
      by false ha = absurd (let e : false ≡ true = ha in cc)
  actor_named nodes (suc zero) j few less = by (nat_lt (1 * nodes + j) nodes) (nat_lt (1 * nodes + j) (nodes + nodes)) (grind (arith, nat_tests, less)) (grind (arith, nat_tests, less))
    where
      by : (a b : Bool) → a ≡ false → b ≡ true → cond a (actors.Slot (record { replica = 0; node = 1 * nodes + j })) (cond b (actors.Slot (record { replica = 1; node = 1 * nodes + j - nodes })) actors.Conductor) ≡ actors.Slot (record { replica = 1; node = j })
      by false true ha hb = ap (λ m. actors.Slot (record { replica = 1; node = m })) (omega arith)
      by true b ha hb = absurd (let e : true ≡ false = ha in cc)
      by false false ha hb = absurd (let e : false ≡ true = hb in cc)
  actor_named nodes (suc (suc r)) j few less = absurd (omega (arith, few))

  nobody : (j : ℕ) → ready_actors s w ≡ [] → j < suc (s.nodes + s.nodes) → enabled s.plan s.nodes w (actor_at s.nodes j) ≡ None
  nobody j none less = let at : j ≡ 0 + j = omega arith in ap (λ m. enabled s.plan s.nodes w (actor_at s.nodes m)) at ∙ nobody_from 0 (suc (s.nodes + s.nodes)) j none less

  nobody_still : (o : Options) → Sound s o w → ready_actors s w ≡ [] → IsStill s w
  nobody_still o sound none actors.Conductor = ap (enabled s.plan s.nodes w) (sym (actor_last s.nodes)) ∙ nobody (s.nodes + s.nodes) none (omega arith)
  nobody_still o sound none (actors.Slot slot) = by (slot_at s.nodes w.posts.slots slot) refl
    where
      by : (q : Option SlotState) → slot_at s.nodes w.posts.slots slot ≡ q → enabled s.plan s.nodes w (actors.Slot slot) ≡ None
      by None is = no_slot s w slot is
      by (Some x) is = subst (λ n. enabled s.plan s.nodes w (actors.Slot n) ≡ None) (slot_is s.nodes w.posts.slots slot x is).name
          (ap (enabled s.plan s.nodes w) (sym (actor_named s.nodes x.node.slot.replica x.node.slot.node its.replica its.node)) ∙ nobody (number_of s.nodes x.node.slot) none (few x.node.slot.replica its.replica its.node))
        where
          its : IsNamed s.nodes (number_of s.nodes slot) x.node.slot
          its = place_is s.nodes w.posts.slots sound.names (number_of s.nodes slot) x (slot_is s.nodes w.posts.slots slot x is).there

          few : (r : ℕ) → r ≤ 1 → x.node.slot.node < s.nodes → r * s.nodes + x.node.slot.node < suc (s.nodes + s.nodes)
          few zero h less = omega (arith, less)
          few (suc zero) h less = omega (arith, less)
          few (suc (suc r)) h less = absurd (omega (arith, h))

-- ---- a whole schedule

ended_stays : (s : Setting) (w : WorldState) (all : List Event) → (reached s w all).conductor.outcome ≡ None → w.conductor.outcome ≡ None
ended_stays s w [] h = h
ended_stays s w (event ∷ more) h = none_before s w event (ended_stays s (happens s w event) more h)

some_unless : {A : Type 0} (q : Option A) → (q ≡ None → ⊥) → IsSome q
some_unless None never = absurd (never refl)
some_unless (Some x) never = refl

module _ (starts : StartIsSound) (begins : StartIsAfloat) (keeps : EveryEventKeeps) (floats : EveryEventKeepsAfloat) (stands : NoStandstill) (lower : EveryEventLowers) where
  -- what is known of the rest of a schedule
  abbrev Later : Setting → Options → ℕ → Chooser → WorldState → Type 0
  Later s o n chooser w = (i : ℕ) (event : Event) → Sound s o (happens s w event) → ((happens s w event).conductor.outcome ≡ None → Afloat s (happens s w event)) → world_left s (happens s w event) ≤ n →
      (reached s (happens s w event) (picked s n (goes_on chooser i) (happens s w event))).conductor.outcome ≡ None → ⊥

  -- what is left bounds the turns that end it
  never_longer : (s : Setting) (o : Options) (plain : IsPlain s o) (turns : ℕ) (chooser : Chooser) (w : WorldState) → Sound s o w → (w.conductor.outcome ≡ None → Afloat s w) → world_left s w ≤ turns → (reached s w (picked s turns chooser w)).conductor.outcome ≡ None → ⊥
  never_longer s o plain zero chooser w sound afloat few h = let now = world_is s w h in omega (arith, few, now)
  never_longer s o plain (suc n) chooser w sound afloat few h = by (chosen_of chooser (ready_actors s w)) refl h (λ i event. never_longer s o plain n (goes_on chooser i) (happens s w event))
    where
      going : w.conductor.outcome ≡ None
      going = ended_stays s w (picked s (suc n) chooser w) h

      by : (q : Option ℕ) → chosen_of chooser (ready_actors s w) ≡ q → (reached s w (picked_by s w (λ i event. picked s n (goes_on chooser i) (happens s w event)) q)).conductor.outcome ≡ None → Later s o n chooser w → ⊥
      by None is h later =
          let some : IsSome w.conductor.outcome = stands s o w plain sound (afloat going) (nobody_still s w o sound (chosen_none chooser (ready_actors s w) is)) in
          let e : false ≡ true = sym (ap (λ q. is_some q) going) ∙ some in
          cc
      by (Some i) is h later = event_is (event_at s w i) refl h
        where
          event_is : (q : Option Event) → event_at s w i ≡ q → (reached s w (picked_event (λ event. picked s n (goes_on chooser i) (happens s w event)) q)).conductor.outcome ≡ None → ⊥
          event_is None at h = let e : true ≡ false = sym (chosen_among (Has s w) chooser i (ready_actors s w) (ready_have s w 0 (suc (s.nodes + s.nodes))) is) ∙ ap (λ q. is_some q) at in cc
          event_is (Some event) at h =
              let less = lower s o w (actor_at s.nodes i) event plain sound (afloat going) at in
              later i event (keeps s o w event plain.placed plain.options sound) (λ goes. floats s o w event plain sound (afloat going) goes) (omega (arith, few, less)) h

  pub schedule_ends : EveryScheduleEnds
  schedule_ends s o chooser turns plain few =
      some_unless (reached s (opening_world s o) (picked s turns chooser (opening_world s o))).conductor.outcome
      (never_longer s o plain turns chooser (opening_world s o) (starts s o plain.placed plain.options) (λ goes. begins s o plain) few)
