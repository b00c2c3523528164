-- Every event keeps a world sound.
use Rattle.std.proofs.Common.{◌≡◌, ℕ, zero, suc, ◌≤◌, ◌<◌, Bool, true, false, cond, List, [], ◌∷◌, ◌++◌, map, refl, ap, sym, ◌∙◌, arith, subst, Option, Some, None}
use Rattle.std.specs.Prelude.{nat_le, nat_lt, not, slice_get}
use Rattle.std.specs.List.{AllByRecursion}
use Rattle.std.proofs.lemmas.Bool.{leb-true, ltb-true}
use Rattle.chare_base.specs.declared.options.Options.{Options}
use Rattle.chare_base.specs.declared.slots.SlotId.{SlotId}
use Rattle.chare_base.specs.Placing.{Covers}
use Rattle.iteration_agree.specs.declared.round.Round.{Round}
use Rattle.iteration_agree.specs.declared.round.Round.TheVariants.{Quiet, Gather, Agreed}
use Rattle.iteration_agree.specs.declared.round.Taking.{Taking}
use Rattle.iteration_agree.specs.declared.round.Taking.TheVariants as takings
use Rattle.iteration_agree.specs.Cuts.{CutState, HasSlot, agreement, noted}
use Rattle.iteration_agree.specs.Moves.{Agrees, Allowed, Move, Notes, Opens, Quiets, moved, mover}
use Rattle.iteration_agree.specs.Rounds.{IsGather, IsQuiet, NamesReplica, number}
use Rattle.iteration_agree.specs.Under.{IsCut}
use Rattle.letter_post.specs.declared.letter.BoxId.TheVariants as boxes
use Rattle.letter_post.specs.declared.letter.Letter.{Letter}
use Rattle.letter_post.specs.declared.order.LastOrder.{LastOrder}
use Rattle.letter_post.specs.Orders.{Chain}
use Rattle.node_core.proofs.Lists.{all_but, all_by}
use Rattle.conductor_core.specs.Conductors.{ConductorState, Heard, conductor_did, conductor_heard, nodes_of, wanted}
use Rattle.conductor_core.specs.Moves.{slot_named}
use Rattle.conductor_core.specs.Tells.{OrdersFollow, TellsOn, mail_to}
use Rattle.conductor_core.specs.declared.wants.CutAnswer.{CutAnswer}
use Rattle.conductor_core.specs.declared.wants.CutAnswer.TheVariants as answers
use Rattle.conductor_core.specs.declared.wants.CutMove.{CutMove}
use Rattle.conductor_core.specs.declared.wants.CutMove.TheVariants as wants
use Rattle.world_core.specs.declared.doing.Doing.{Doing}
use Rattle.world_core.specs.declared.doing.Doing.TheVariants as doings
use Rattle.world_core.specs.declared.event.Event.TheVariants as events
use Rattle.world_core.specs.Sound.{AllTrue, EveryEventKeeps, IsFor, IsPlaced, SlotSound, Sound, last_sent, names, slot_name}
use Rattle.world_core.specs.Worlds.{Acted, Posts, Setting, SlotState, WorldState, after_conductor, after_slot, again, by_slot, conductor_made, conductor_moved, did_in, does, happens, has_slot, in_cut, is_gather, is_quiet, names_replica, number_of, posted, saw_in, sight_in, slot_at, stand, takes_move, told_by, with_noted, with_slot}
use Rattle.world_core.proofs.Acting.{does_well}
use Rattle.world_core.proofs.Due.{first, second}
use Rattle.world_core.proofs.Lists.{all_got, all_mapped, all_to}
use Rattle.world_core.proofs.Mailing.{Awaits, Is, IsNamed, Pending, apart, names_set, place_is, posted_pending, slot_is}
use Rattle.world_core.proofs.Sides.{Beside, Known, Stands, Well, sound_so, stands_so}
use Rattle.world_core.proofs.Unordered.{all_mail}

-- ---- a slot whose place stands as it did

module _ (s : Setting) (cut new : CutState) (x : SlotState) (same : stand new x.node.slot ≡ stand cut x.node.slot) where
  -- in a round that is the same
  stands_on : new.round ≡ cut.round → Stands s cut.round (stand cut x.node.slot) x → Stands s new.round (stand new x.node.slot) x
  stands_on round h = subst (λ t. Stands s new.round t x) (sym same) (subst (λ r. Stands s r (stand cut x.node.slot) x) (sym round) h)

  -- what is kept of it is worked out again
  stands_again : Stands s cut.round (stand cut x.node.slot) x → Stands s new.round (stand new x.node.slot) (again s.plan new x)
  stands_again h = record {
    keeps = h.keeps;
    letters = h.letters;
    beside = subst (λ t. Beside t x.back x.since x.node.body) (sym same) h.beside;
    seats = refl;
    current = refl;
  }

-- ---- all slots

module _ (law : Known) (s : Setting) (o : Options) (is : IsFor s o) where
  -- a slot of the run has its place
  has_place : (cut : CutState) (i : ℕ) (slot : SlotId) → cut.nodes ≡ s.nodes → IsNamed s.nodes i slot → HasSlot cut slot
  has_place cut i slot nodes at = (at.replica, let few = at.node in omega (arith, few, nodes))

  abbrev Delivered : CutState → ConductorState → Posts → Type 0
  Delivered cut c b = Pending s cut (last_sent c) [] b

  empty : {A : Type 0} (xs : List A) → xs ++ [] ≡ xs
  empty [] = refl
  empty (x ∷ xs) = ap (λ l. x ∷ l) (empty xs)

  all_sound : (cut : CutState) (c : ConductorState) (b : Posts) → Delivered cut c b → AllByRecursion (SlotSound s cut c) b.slots
  all_sound cut c b h =
      all_to (Awaits s cut (last_sent c) []) (SlotSound s cut c) b.slots
      (λ x each. sound_so s cut c x each.0 (subst (λ l. Chain s.plan s.script x.node.last l (last_sent c x.node.slot.replica)) (empty x.box) each.1)) h.slots

  -- ---- an event of a slot

  module _ (w : WorldState) (sound : Sound s o w) where
    abbrev slots : List SlotState
    slots = w.posts.slots

    abbrev sent : SlotId → LastOrder
    sent slot = last_sent w.conductor slot.replica

    sound_at : (i : ℕ) (x : SlotState) → slice_get slots i ≡ Some x → SlotSound s w.cut w.conductor x
    sound_at i x there = all_got (SlotSound s w.cut w.conductor) slots i x sound.slots there

    named_at : (i : ℕ) (x : SlotState) → slice_get slots i ≡ Some x → IsNamed s.nodes i x.node.slot
    named_at i x there = place_is s.nodes slots sound.names i x there

    after_sound : (slot : SlotId) (x : SlotState) (a : Acted) → Is s.nodes slots slot x → Well s w.cut x (sent x.node.slot) a → Sound s o (after_slot s slot a w)
    after_sound slot x a at well =
        let done : Delivered a.cut w.conductor (posted s.nodes a.out (record { slots = with_slot s.nodes slots slot a.slot; desk = w.posts.desk })) =
        posted_pending s a.cut (last_sent w.conductor) a.out (record { slots = with_slot s.nodes slots slot a.slot; desk = w.posts.desk })
        (record {
          slots = all_but (Awaits s a.cut (last_sent w.conductor) a.out) slots (number_of s.nodes slot) a.slot other mine;
          names = names_set s.nodes slots sound.names (number_of s.nodes slot) a.slot x at.there well.name;
          desk = sound.desk;
        })
        well.says in
        record {
          slots = all_sound a.cut w.conductor _ done;
          names = done.names;
          desk = done.desk;
          conductor = sound.conductor;
          agreement = well.shift.holds;
          nodes = well.shift.nodes ∙ sound.nodes;
        }
      where
        -- mail follows any order
        mailed : (y : SlotState) (name : SlotId) (end : LastOrder) → Chain s.plan s.script y.node.last y.box end → Chain s.plan s.script y.node.last (y.box ++ mail_to name a.out) end
        mailed y name end chain =
            law.all s.plan s.script y.node.last end end y.box (mail_to name a.out) chain (law.mail s.plan s.script end (mail_to name a.out) (all_mail name a.out well.mail))

        other : (m : ℕ) (y : SlotState) → slice_get slots m ≡ Some y → (m ≡ number_of s.nodes slot → ⊥) → Awaits s a.cut (last_sent w.conductor) a.out y
        other m y there far =
            let old : SlotSound s w.cut w.conductor y = sound_at m y there in
            let away : y.node.slot ≡ x.node.slot → ⊥ = λ same. apart s.nodes slots sound.names m (number_of s.nodes slot) y slot there refl far (same ∙ at.name) in
            let stays : stand a.cut y.node.slot ≡ stand w.cut y.node.slot = well.shift.others y.node.slot (has_place w.cut m y.node.slot sound.nodes (named_at m y there)) away in (
              stands_on s w.cut a.cut y stays well.shift.round (stands_so s w.cut w.conductor y old),
              mailed y y.node.slot (sent y.node.slot) old.chain,
            )

        mine : Awaits s a.cut (last_sent w.conductor) a.out a.slot
        mine = (
          subst (λ name. Stands s a.cut.round (stand a.cut name) a.slot) (sym well.name) well.stands,
          mailed a.slot a.slot.node.slot (sent a.slot.node.slot) (subst (λ (name : SlotId). Chain s.plan s.script a.slot.node.last a.slot.box (last_sent w.conductor name.replica)) (sym well.name) well.chain),
        )

    slot_keeps : IsPlaced s → (slot : SlotId) (d : Doing) (q : Option SlotState) → slot_at s.nodes slots slot ≡ q → Sound s o (by_slot s slot w (does s w.cut d) q)
    slot_keeps placed slot d None there = sound
    slot_keeps placed slot d (Some x) there =
        let at : Is s.nodes slots slot x = slot_is s.nodes slots slot x there in
        let old : SlotSound s w.cut w.conductor x = sound_at (number_of s.nodes slot) x at.there in
        let named : IsNamed s.nodes (number_of s.nodes slot) x.node.slot = named_at (number_of s.nodes slot) x at.there in
        after_sound slot x (does s w.cut d x) at
        (does_well law s w.cut x (sent x.node.slot) sound.agreement (stands_so s w.cut w.conductor x old) old.chain (has_place w.cut (number_of s.nodes slot) x.node.slot sound.nodes named) placed.covers named.node d)

    -- ---- an event of the conductor

    -- what a slot is sent follows what its replica was ordered
    told_chain : (h : Heard) (slot : SlotId) → OrdersFollow s.plan s.script w.conductor h → slot.replica ≤ 1 → slot.node < s.nodes → Chain s.plan s.script (sent slot) (mail_to slot h.out) (last_sent h.conductor slot.replica)
    told_chain h slot follow replica node = by slot.replica replica
      where
        few : slot.node < nodes_of w.conductor
        few = let n = sound.conductor.sized.options in let m = is.nodes in omega (arith, node, n, m)

        by : (r : ℕ) → r ≤ 1 → Chain s.plan s.script (last_sent w.conductor r) (mail_to (slot_named r slot.node) h.out) (last_sent h.conductor r)
        by zero le = follow.first slot.node few
        by (suc zero) le = follow.second slot.node few
        by (suc (suc r)) le = absurd (omega (arith, le))

    -- it heard a letter or an answer, beside these slots in this agreement
    conductor_sound : (h : Heard) (v : WorldState) (desk : List Letter) → TellsOn s.plan s.script o s.place w.conductor h → IsCut v.cut → v.cut.nodes ≡ s.nodes →
        AllByRecursion (λ x. Stands s v.cut.round (stand v.cut x.node.slot) x × Chain s.plan s.script x.node.last x.box (sent x.node.slot)) v.posts.slots → map slot_name v.posts.slots ≡ names s.nodes → AllTrue s boxes.Conductor desk →
        Sound s o (after_conductor s h desk v)
    conductor_sound h v desk on holds nodes all are true_desk =
        let done : Delivered v.cut h.conductor (posted s.nodes h.out (record { slots = v.posts.slots; desk = desk })) =
        posted_pending s v.cut (last_sent h.conductor) h.out (record { slots = v.posts.slots; desk = desk })
        (record { slots = all_by (Awaits s v.cut (last_sent h.conductor) h.out) v.posts.slots each; names = are; desk = true_desk }) on.says in
        record {
          slots = all_sound v.cut h.conductor _ done;
          names = done.names;
          desk = done.desk;
          conductor = on.tells;
          agreement = holds;
          nodes = nodes;
        }
      where
        each : (m : ℕ) (x : SlotState) → slice_get v.posts.slots m ≡ Some x → Awaits s v.cut (last_sent h.conductor) h.out x
        each m x there =
            let old = all_got (λ x. Stands s v.cut.round (stand v.cut x.node.slot) x × Chain s.plan s.script x.node.last x.box (sent x.node.slot)) v.posts.slots m x all there in
            let named : IsNamed s.nodes m x.node.slot = place_is s.nodes v.posts.slots are m x there in (
              old.0,
              law.all s.plan s.script x.node.last (sent x.node.slot) (last_sent h.conductor x.node.slot.replica) x.box (mail_to x.node.slot h.out) old.1 (told_chain h x.node.slot on.follows named.replica named.node),
            )

    told_sound : (desk : List Letter) → AllTrue s boxes.Conductor desk → Sound s o (told_by s w desk)
    told_sound [] all = sound
    told_sound (letter ∷ more) all =
        conductor_sound (conductor_heard letter w.conductor) w more (law.tells s.plan s.script o s.place letter w.conductor sound.conductor all.0) sound.agreement sound.nodes
        (all_to (SlotSound s w.cut w.conductor) (λ x. Stands s w.cut.round (stand w.cut x.node.slot) x × Chain s.plan s.script x.node.last x.box (sent x.node.slot)) slots (λ x h. (stands_so s w.cut w.conductor x h, h.chain)) sound.slots)
        sound.names all.1

    -- ---- a move of the conductor

    did_tells : IsPlaced s → (answer : CutAnswer) → TellsOn s.plan s.script o s.place w.conductor (conductor_did s.plan s.place answer w.conductor)
    did_tells placed answer = law.did s.plan s.script o s.place answer w.conductor placed.count (subst (λ n. Covers s.place n) (sym is.nodes) placed.covers) sound.conductor

    -- a move of the conductor leaves how slots stand
    standing : (m : Move) → mover m ≡ None → Allowed w.cut m → (i : ℕ) (x : SlotState) → slice_get slots i ≡ Some x → stand (moved w.cut m) x.node.slot ≡ stand w.cut x.node.slot
    standing m nobody allowed i x there =
        law.others w.cut m x.node.slot sound.agreement allowed (has_place w.cut i x.node.slot sound.nodes (named_at i x there)) (λ e. let q : None ≡ Some x.node.slot = sym nobody ∙ e in absurd cc)

    moved_nodes : (m : Move) → (moved w.cut m).nodes ≡ s.nodes
    moved_nodes m = (law.counted w.cut m).1 ∙ sound.nodes

    -- the round is another, and what is kept of each slot is worked out again
    round_sound : IsPlaced s → (m : Move) → mover m ≡ None → Allowed w.cut m → (answer : CutAnswer) → Sound s o (did_in s (conductor_did s.plan s.place answer w.conductor) (in_cut s.plan (moved w.cut m) w))
    round_sound placed m nobody allowed answer =
        conductor_sound (conductor_did s.plan s.place answer w.conductor) (in_cut s.plan (moved w.cut m) w) w.posts.desk (did_tells placed answer)
        (law.keeps w.cut m sound.agreement allowed) (moved_nodes m)
        (all_mapped (λ x. Stands s (moved w.cut m).round (stand (moved w.cut m) x.node.slot) x × Chain s.plan s.script x.node.last x.box (sent x.node.slot)) (again s.plan (moved w.cut m)) slots
        (all_by (λ x. Stands s (moved w.cut m).round (stand (moved w.cut m) x.node.slot) (again s.plan (moved w.cut m) x) × Chain s.plan s.script x.node.last x.box (sent x.node.slot)) slots
        (λ i x there. (stands_again s w.cut (moved w.cut m) x (standing m nobody allowed i x there) (stands_so s w.cut w.conductor x (sound_at i x there)), (sound_at i x there).chain))))
        (again_names slots ∙ sound.names) sound.desk
      where
        again_names : (all : List SlotState) → map slot_name (map (again s.plan (moved w.cut m)) all) ≡ map slot_name all
        again_names [] = refl
        again_names (x ∷ more) = ap (λ l. slot_name x ∷ l) (again_names more)

    -- it saw a slot, whose cap is noted
    saw_sound : IsPlaced s → (slot : SlotId) → HasSlot w.cut slot → Sound s o (saw_in s slot w)
    saw_sound placed slot has =
        conductor_sound (conductor_did s.plan s.place (answers.Seen (sight_in w.cut slot)) w.conductor) (with_noted slot w) w.posts.desk (did_tells placed (answers.Seen (sight_in w.cut slot)))
        (law.keeps w.cut (Notes slot) sound.agreement has) (moved_nodes (Notes slot))
        (all_by (λ x. Stands s (noted slot w.cut).round (stand (noted slot w.cut) x.node.slot) x × Chain s.plan s.script x.node.last x.box (sent x.node.slot)) slots
        (λ i x there. (stands_on s w.cut (noted slot w.cut) x (standing (Notes slot) refl has i x there) (law.notes w.cut slot).round (stands_so s w.cut w.conductor x (sound_at i x there)), (sound_at i x there).chain)))
        sound.names sound.desk

    has_is : (slot : SlotId) → has_slot w.cut slot ≡ true → HasSlot w.cut slot
    has_is slot h = (leb-true slot.replica 1 (first (nat_le slot.replica 1) (nat_lt slot.node w.cut.nodes) h), ltb-true slot.node w.cut.nodes (second (nat_le slot.replica 1) (nat_lt slot.node w.cut.nodes) h))

    quiet_is : (round : Round) → is_quiet round ≡ true → IsQuiet round
    quiet_is (Quiet r) h = tt
    quiet_is (Gather r f) h = absurd (let q : false ≡ true = h in cc)
    quiet_is (Agreed r k) h = absurd (let q : false ≡ true = h in cc)

    not_quiet : (round : Round) → not (is_quiet round) ≡ true → IsQuiet round → ⊥
    not_quiet (Quiet r) h is = absurd (let q : false ≡ true = h in cc)
    not_quiet (Gather r f) h is = is
    not_quiet (Agreed r k) h is = is

    gather_is : (round : Round) → is_gather round ≡ true → IsGather round
    gather_is (Quiet r) h = absurd (let q : false ≡ true = h in cc)
    gather_is (Gather r f) h = tt
    gather_is (Agreed r k) h = absurd (let q : false ≡ true = h in cc)

    names_one : (taking : Taking) → names_replica taking ≡ true → NamesReplica taking
    names_one takings.Both h = tt
    names_one (takings.Only replica) h = leb-true replica 1 h

    made_sound : IsPlaced s → (m : CutMove) → takes_move w.cut m ≡ true → Sound s o (conductor_made s w m)
    made_sound placed wants.None h = sound
    made_sound placed (wants.Look slot) h = saw_sound placed slot (has_is slot h)
    made_sound placed (wants.Note slot) h = saw_sound placed slot (has_is slot h)
    made_sound placed (wants.OpenRound floor) h =
        round_sound placed (Opens floor) refl
        (quiet_is w.cut.round (first (is_quiet w.cut.round) (nat_le floor 1000000) h), leb-true floor 1000000 (second (is_quiet w.cut.round) (nat_le floor 1000000) h)) answers.Nothing
    made_sound placed (wants.Agree taking) h =
        round_sound placed (Agrees taking) refl
        (gather_is w.cut.round (first (is_gather w.cut.round) (names_replica taking) h), names_one taking (second (is_gather w.cut.round) (names_replica taking) h)) (answers.Agreed (agreement taking w.cut))
    made_sound placed wants.Quiet h =
        round_sound placed Quiets refl
        (not_quiet w.cut.round (first (not (is_quiet w.cut.round)) (nat_lt (number w.cut.round) 1000129) h), ltb-true (number w.cut.round) 1000129 (second (not (is_quiet w.cut.round)) (nat_lt (number w.cut.round) 1000129) h)) answers.Nothing

    move_sound : IsPlaced s → (m : CutMove) → Sound s o (conductor_moved s w m)
    move_sound placed m = by (takes_move w.cut m) refl
      where
        by : (b : Bool) → takes_move w.cut m ≡ b → Sound s o (cond b (conductor_made s w m) w)
        by true h = made_sound placed m h
        by false h = sound

pub event_keeps : Known → EveryEventKeeps
unfolding happens
event_keeps law s o w (events.Run slot e) placed is sound = slot_keeps law s o is w sound placed slot (doings.Run e) (slot_at s.nodes w.posts.slots slot) refl
event_keeps law s o w (events.Hear slot) placed is sound = slot_keeps law s o is w sound placed slot doings.Hear (slot_at s.nodes w.posts.slots slot) refl
event_keeps law s o w (events.Move slot) placed is sound = slot_keeps law s o is w sound placed slot doings.Move (slot_at s.nodes w.posts.slots slot) refl
event_keeps law s o w events.ConductorHear placed is sound = told_sound law s o is w sound w.posts.desk sound.desk
event_keeps law s o w events.ConductorMove placed is sound = move_sound law s o is w sound placed (wanted w.conductor)
