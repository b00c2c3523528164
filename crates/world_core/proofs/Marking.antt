-- A move of the conductor that looks at a slot, notes one or opens a round loses nothing.
use Rattle.std.proofs.Common.{◌≡◌, ℕ, inl, inr, Bool, true, false, cond, refl, ap, sym, ◌∙◌, arith, subst, Option, Some, None, IsSome}
use Rattle.std.specs.Prelude.{◌⊎◌, ◌==◌, IfSome, is_some, slice_index_or, slice_set}
use Rattle.std.proofs.lemmas.Bool.{eqb-true}
use Rattle.std.proofs.lemmas.Bool.Decides.{nat_tests}
use Rattle.chare_base.specs.declared.options.Options.{Options}
use Rattle.chare_base.specs.declared.slots.SlotId.{SlotId}
use Rattle.iteration_agree.specs.declared.round.Round.{Round}
use Rattle.iteration_agree.specs.declared.round.Round.TheVariants as rounds
use Rattle.iteration_agree.specs.declared.slot.Slot.{Slot}
use Rattle.iteration_agree.specs.Cuts.{HasSlot, noted, opened, slot_of, slot_place}
use Rattle.iteration_agree.specs.Rounds.{number}
use Rattle.iteration_agree.specs.Slots.{cap_in, opening_slot, slot_noted}
use Rattle.iteration_agree.specs.Under.{UnderSlot}
use Rattle.iteration_agree.proofs.Holding.{has_place}
use Rattle.iteration_agree.proofs.Keeping.{one}
use Rattle.iteration_agree.proofs.Lists as lists
use Rattle.conductor_core.specs.declared.wants.CutAnswer.TheVariants as answers
use Rattle.conductor_core.specs.declared.wants.CutMove.{CutMove}
use Rattle.conductor_core.specs.declared.wants.CutMove.TheVariants as moves
use Rattle.conductor_core.specs.declared.wants.Phase.TheVariants as phases
use Rattle.conductor_core.specs.Conductors.{ConductorState, conductor_did, moved, nodes_of, wanted, with_note, with_sight}
use Rattle.conductor_core.specs.Moves.{is_noted, slot_after}
use Rattle.conductor_core.specs.Tells.{IsSlot, MoveFits, MovesFit}
use Rattle.world_core.specs.Sound.{Sound}
use Rattle.world_core.specs.Still.{Afloat, IsPhase, IsPlain}
use Rattle.world_core.specs.Worlds.{Setting, WorldState, conductor_made, conductor_moved, did_in, in_cut, sight_in, takes_move, with_noted}
use Rattle.world_core.proofs.Looking.{mark_from, opened_afloat, seen_afloat}
use Rattle.world_core.proofs.Seen.{self_equal}

-- ---- a slot that reported is noted

cap_some : (r n : ℕ) → IsSome (cap_in r (Some (record { cap = n; round = r })))
cap_some r n = subst (λ b. IsSome (cond b (Some n) None)) (sym (self_equal r)) refl

module _ (s : Setting) (o : Options) (plain : IsPlain s o) (w : WorldState) (sound : Sound s o w) (afloat : Afloat s w) (slot : SlotId) (is_slot : IsSlot o.nodes slot) (gathers : w.conductor.phase ≡ phases.Gather) where
  abbrev c : ConductorState
  c = w.conductor

  abbrev t : Slot
  t = slot_of w.cut slot

  has : HasSlot w.cut slot
  has = (is_slot.0, let a = is_slot.1 in let b = plain.options.nodes in let n = sound.nodes in omega (arith, a, b, n))

  under : UnderSlot w.cut.round w.cut.floor w.cut.taking t
  under = one w.cut (slot_place w.cut.nodes slot) (has_place w.cut slot sound.agreement has) sound.agreement.under

  -- one that was noted is still noted
  own_old : IsSome t.noted → IsSome (slot_noted w.cut.round t).noted
  own_old some = by w.cut.round refl
    where
      by : (round : Round) → w.cut.round ≡ round → IsSome (slot_noted round t).noted
      by (rounds.Quiet r) here = some
      by (rounds.Agreed r k) here = some
      by (rounds.Gather r f) here = capped t.noted some under.noted
        where
          capped : (q : Option ℕ) → IsSome q → IfSome q (λ n. t.cap ≡ Some (record { cap = n; round = number w.cut.round })) → IsSome (cap_in r t.cap)
          capped None some h = absurd (let q : false ≡ true = some in cc)
          capped (Some n) some h = subst (λ q. IsSome (cap_in r q)) (sym (h ∙ ap (λ round. Some (record { cap = n; round = number round })) here)) (cap_some r n)

  -- and one that has a cap in the round is
  own_new : IsSome (sight_in w.cut slot).cap → IsSome (slot_noted w.cut.round t).noted
  own_new some = by w.cut.round refl (subst (λ p. IsPhase c w.cut.floor p w.cut.round) gathers afloat.beside.phase)
    where
      by : (round : Round) → w.cut.round ≡ round → IsPhase c w.cut.floor phases.Gather round → IsSome (slot_noted round t).noted
      by (rounds.Quiet r) here h = absurd h
      by (rounds.Agreed r k) here h = absurd h
      by (rounds.Gather r f) here h = subst (λ round. IsSome (cap_in (number round) t.cap)) here some

  abbrev place : ℕ
  place = slot_place s.nodes slot

  places : (name : SlotId) → slot_place w.cut.nodes name ≡ slot_place s.nodes name
  places name = ap (λ n. slot_place n name) sound.nodes

  -- whatever stands at a mark's place is noted, where it was, or is the slot's own place
  noted_there : (name : SlotId) → (slot_place s.nodes name ≡ place → IsSome (slot_noted w.cut.round t).noted) → (((slot_place s.nodes name ≡ place) → ⊥) → IsSome (slot_of w.cut name).noted) → IsSome (slot_of (noted slot w.cut) name).noted
  unfolding noted
  noted_there name own other = by (slot_place w.cut.nodes slot == slot_place w.cut.nodes name) refl
    where
      by : (b : Bool) → (slot_place w.cut.nodes slot == slot_place w.cut.nodes name) ≡ b →
          IsSome (slice_index_or (slice_set w.cut.slots (slot_place w.cut.nodes slot) (slot_noted w.cut.round t)) (slot_place w.cut.nodes name) (opening_slot 0)).noted
      by true h =
          let same : slot_place w.cut.nodes slot ≡ slot_place w.cut.nodes name = eqb-true (slot_place w.cut.nodes slot) (slot_place w.cut.nodes name) h in
          subst (λ i. IsSome (slice_index_or (slice_set w.cut.slots (slot_place w.cut.nodes slot) (slot_noted w.cut.round t)) i (opening_slot 0)).noted) same
          (subst (λ (q : Slot). IsSome q.noted) (sym (lists.set_there w.cut.slots (slot_place w.cut.nodes slot) (slot_noted w.cut.round t) (opening_slot 0) (has_place w.cut slot sound.agreement has)))
          (own (sym (places name) ∙ sym same ∙ places slot)))
      by false h =
          let apart : slot_place w.cut.nodes slot ≡ slot_place w.cut.nodes name → ⊥ = λ same. absurd (grind (arith, nat_tests, h, same)) in
          subst (λ (q : Slot). IsSome q.noted) (sym (lists.set_elsewhere w.cut.slots (slot_place w.cut.nodes slot) (slot_place w.cut.nodes name) (slot_noted w.cut.round t) (opening_slot 0) apart))
          (other (λ same. apart (places slot ∙ sym same ∙ sym (places name))))

  -- a mark that stood before
  was_marked : (name : SlotId) → is_noted c.noted s.nodes name ≡ true → IsSome (slot_of (noted slot w.cut) name).noted
  was_marked name h = noted_there name (λ same. own_old (subst (λ (i : ℕ). IsSome (slice_index_or w.cut.slots i (opening_slot 0)).noted) (places name ∙ same ∙ sym (places slot)) old)) (λ apart. old)
    where
      old : IsSome (slot_of w.cut name).noted
      old = afloat.beside.noted gathers name h

  -- and one that is set now
  now_marked : IsSome (sight_in w.cut slot).cap → (name : SlotId) → is_noted (slice_set c.noted place true) s.nodes name ≡ true → IsSome (slot_of (noted slot w.cut) name).noted
  now_marked some name h = by (mark_from c.noted place (slot_place s.nodes name) h)
    where
      by : (slot_place s.nodes name ≡ place) ⊎ (slice_index_or c.noted (slot_place s.nodes name) false ≡ true) → IsSome (slot_of (noted slot w.cut) name).noted
      by (inl same) = noted_there name (λ q. own_new some) (λ apart. absurd (apart same))
      by (inr old) = was_marked name old

  abbrev with_it : ConductorState
  with_it = with_sight slot (sight_in w.cut slot) c

  pub note_afloat : Afloat s (record { posts = w.posts; cut = noted slot w.cut; conductor = with_note slot (sight_in w.cut slot).cap with_it; over = w.over })
  note_afloat = by (sight_in w.cut slot).cap refl
    where
      nodes_are : nodes_of c ≡ s.nodes
      nodes_are = sound.conductor.sized.options ∙ plain.options.nodes

      by : (q : Option ℕ) → (sight_in w.cut slot).cap ≡ q → Afloat s (record { posts = w.posts; cut = noted slot w.cut; conductor = with_note slot q with_it; over = w.over })
      by None is = seen_afloat s o w sound afloat slot with_it.sights c.next_look c.noted (λ at name h. was_marked name h)
      by (Some n) is = seen_afloat s o w sound afloat slot with_it.sights c.next_look (slice_set c.noted (slot_place (nodes_of c) slot) true)
          (λ at name h. now_marked (ap (λ q. is_some q) is) name (subst (λ m. is_noted (slice_set c.noted (slot_place m slot) true) s.nodes name ≡ true) nodes_are h))

-- ---- these moves

abbrev pub IsLook : CutMove → Type 0
IsLook moves.None = Unit {0}
IsLook (moves.Look slot) = Unit {0}
IsLook (moves.OpenRound floor) = Unit {0}
IsLook (moves.Note slot) = Unit {0}
IsLook (moves.Agree taking) = ⊥
IsLook moves.Quiet = ⊥

pub look_afloat : (s : Setting) (o : Options) → IsPlain s o → MovesFit → (w : WorldState) → Sound s o w → Afloat s w → (m : CutMove) → wanted w.conductor ≡ m → IsLook m → Afloat s (conductor_moved s w m)
unfolding conductor_did
look_afloat s o plain fit w sound afloat m is look = by (takes_move w.cut m) (made m is look fits)
  where
    fits : MoveFits s.plan o.nodes w.conductor m
    fits = subst (MoveFits s.plan o.nodes w.conductor) is (fit s.plan s.script o s.place w.conductor (let a = plain.some in let b = plain.options.nodes in omega (arith, a, b)) sound.conductor)

    by : (b : Bool) → Afloat s (conductor_made s w m) → Afloat s (cond b (conductor_made s w m) w)
    by true h = h
    by false h = afloat

    made : (m : CutMove) → wanted w.conductor ≡ m → IsLook m → MoveFits s.plan o.nodes w.conductor m → Afloat s (conductor_made s w m)
    made moves.None is look fits = afloat
    made (moves.Look slot) is look fits =
        subst (λ m. Afloat s (did_in s (moved s.plan s.place m (answers.Seen (sight_in w.cut slot)) w.conductor) (with_noted slot w))) (sym is)
        (seen_afloat s o w sound afloat slot (with_sight slot (sight_in w.cut slot) w.conductor).sights (slot_after (nodes_of w.conductor) slot) w.conductor.noted
        (λ at name h. absurd (let q : phases.Quiet ≡ phases.Gather = sym fits.0 ∙ at in cc)))
    made (moves.Note slot) is look fits =
        subst (λ m. Afloat s (did_in s (moved s.plan s.place m (answers.Seen (sight_in w.cut slot)) w.conductor) (with_noted slot w))) (sym is) (note_afloat s o plain w sound afloat slot fits.1 fits.0)
    made (moves.OpenRound floor) is look fits =
        subst (λ m. Afloat s (did_in s (moved s.plan s.place m answers.Nothing w.conductor) (in_cut s.plan (opened floor w.cut) w))) (sym is) (opened_afloat s o w sound afloat floor fits.0 fits.1)
    made (moves.Agree taking) is look fits = absurd look
    made moves.Quiet is look fits = absurd look
