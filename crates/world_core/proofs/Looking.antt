-- A round that the conductor opens, and the slots that it looks at, lose nothing.
use Rattle.std.proofs.Common.{◌≡◌, ℕ, zero, suc, inl, inr, Bool, true, false, List, [], ◌∷◌, length, refl, ap, sym, ◌∙◌, subst, Option, Some, IsSome}
use Rattle.std.specs.Prelude.{◌⊎◌, map, replicate, slice_index_or, slice_set}
use Rattle.chare_base.specs.declared.options.Options.{Options}
use Rattle.chare_base.specs.declared.slots.SlotId.{SlotId}
use Rattle.iteration_agree.specs.declared.round.Round.{Round}
use Rattle.iteration_agree.specs.declared.round.Round.TheVariants as rounds
use Rattle.iteration_agree.specs.declared.round.Sight.{Sight}
use Rattle.iteration_agree.specs.declared.slot.Slot.{Slot}
use Rattle.iteration_agree.specs.Cuts.{CutState, noted, opened, slot_of, slot_place}
use Rattle.iteration_agree.specs.Rounds.{number}
use Rattle.iteration_agree.specs.Slots.{opening_slot, slot_noted}
use Rattle.letter_post.specs.declared.letter.Letter.{Letter}
use Rattle.letter_post.specs.declared.letter.Letter.TheVariants as letters
use Rattle.run_ledger.specs.Conditions.{due}
use Rattle.pup_state.specs.declared.compare.Verdict.{Verdict}
use Rattle.node_core.specs.Mail.{Owes}
use Rattle.conductor_core.specs.declared.wants.Phase.{Phase}
use Rattle.conductor_core.specs.declared.wants.Phase.TheVariants as phases
use Rattle.conductor_core.specs.Conductors.{ConductorState}
use Rattle.conductor_core.specs.Moves.{is_noted}
use Rattle.conductor_core.specs.Tells.{IsKept, verdict_at}
use Rattle.world_core.specs.Sound.{Sound}
use Rattle.world_core.specs.Still.{Afloat, Beside, IsPhase, PairIn, Told, present, present_in}
use Rattle.world_core.specs.Worlds.{Setting, SlotState, WorldState, again}
use Rattle.world_core.proofs.Placing.{kept_at}
use Rattle.world_core.proofs.Seen.{some_of}
use Rattle.world_core.proofs.Turning.{Alike, SameStand, Turned, slot_turned, turned_afloat, turned_to}

none_noted : (n i : ℕ) → slice_index_or (replicate n false) i false ≡ true → ⊥
none_noted zero i h = let q : false ≡ true = h in cc
none_noted (suc n) zero h = let q : false ≡ true = h in cc
none_noted (suc n) (suc i) h = none_noted n i h

-- ---- a round is opened

module _ (s : Setting) (o : Options) (w : WorldState) (sound : Sound s o w) (afloat : Afloat s w) (floor : ℕ) (quiet : w.conductor.phase ≡ phases.Quiet) (at_due : floor ≡ due w.conductor.ledger) where
  abbrev c : ConductorState
  c = w.conductor

  abbrev gathers : ConductorState
  gathers = record c { phase = phases.Gather; noted = replicate (length c.noted) false }

  abbrev cut : CutState
  cut = opened floor w.cut

  not_agreed : (k : ℕ) → c.phase ≡ phases.Agreed k → ⊥
  not_agreed k h = let q : phases.Quiet ≡ phases.Agreed k = sym quiet ∙ h in cc

  stands : (name : SlotId) → SameStand w.cut cut c gathers (slot_of w.cut name) (slot_of cut name)
  unfolding opened
  stands name = record { round = refl; free = refl; packed = refl; cap = refl; top = refl; ledger = refl; agreed = λ k h. absurd (not_agreed k h) }

  abbrev alike_again : (x : SlotState) → Alike x (again s.plan cut x)
  alike_again x = record { node = refl; box = refl; back = refl; since = refl }

  told : (letter : Letter) → Told letter c → Told letter gathers
  told (letters.Parcel stamp entry k to payload) h = tt
  told (letters.Partial stamp r k node value) h = tt
  told (letters.Total stamp r k value) h = tt
  told (letters.Piece stamp piece) h = tt
  told (letters.VerdictOf first second node k verdict piece) h = λ at within one two. absurd (let q : false ≡ true = at in cc)
  told (letters.Lend k fresh) h = tt
  told (letters.Take stamp k live piece) h = tt
  told (letters.Restore stamp k live) h = tt
  told (letters.Commit stamp k live) h = tt
  told (letters.Resume stamp) h = tt
  told (letters.Died stamp slot line) h = tt
  told letters.Stop h = tt

  present_is : present c ≡ c.ledger.base
  present_is = ap (λ (p : Phase). present_in c.ledger.base p) quiet

  no_verdict : (j : ℕ) → IsSome (verdict_at c.verdicts j) → ⊥
  no_verdict j some =
      let v : (v : Verdict) × (verdict_at c.verdicts j ≡ Some v) = some_of (verdict_at c.verdicts j) some in
      subst (λ p. IsKept s.plan s.script s.place c.first c.second p c.pieces j v.0) quiet (sound.conductor.kept j v.0 v.1)

  beside : Beside s cut gathers
  unfolding opened
  beside = record {
    phase = at_due;
    both = afloat.beside.both;
    counted = afloat.beside.counted;
    going = afloat.beside.going;
    every = afloat.beside.every;
    unended = afloat.beside.unended;
    up = afloat.beside.up;
    first = afloat.beside.first;
    second = afloat.beside.second;
    noted = λ at slot h. absurd (none_noted (length c.noted) (slot_place s.nodes slot) h);
  }

  turned : Turned s w afloat cut gathers (again s.plan cut) alike_again
  turned = record {
    ledger = refl;
    told = λ letter backed h. told letter h;
    slots = λ m x there h. slot_turned s w.cut cut c gathers afloat.log x (again s.plan cut x) (stands x.node.slot) (alike_again x) (subst (λ k. Owes s.plan s.place k afloat.log x.node) present_is) h;
    pairs = λ j hj x other b own there_x there_other one two alive theirs h. subst (λ p. PairIn p other x b own) quiet h;
    heard = λ j some. absurd (no_verdict j some);
    beside = beside;
  }

  pub opened_afloat : Afloat s (turned_to s w afloat cut gathers (again s.plan cut) alike_again)
  opened_afloat = turned_afloat s w afloat cut gathers (again s.plan cut) alike_again turned

-- ---- a slot is seen

-- a mark that stands after another was set was it, or stood before
pub mark_from : (marks : List Bool) (i j : ℕ) → slice_index_or (slice_set marks i true) j false ≡ true → (j ≡ i) ⊎ (slice_index_or marks j false ≡ true)
mark_from [] i j h = inr h
mark_from (x ∷ more) zero zero h = inl refl
mark_from (x ∷ more) zero (suc j) h = inr h
mark_from (x ∷ more) (suc i) zero h = inr h
mark_from (x ∷ more) (suc i) (suc j) h = by (mark_from more i j h)
  where
    by : (j ≡ i) ⊎ (slice_index_or more j false ≡ true) → (suc j ≡ suc i) ⊎ (slice_index_or more j false ≡ true)
    by (inl q) = inl (ap suc q)
    by (inr q) = inr q

-- what noting leaves of a place
record SameBut (t q : Slot) : Type 0 where
  free : q.free ≡ t.free
  packed : q.packed ≡ t.packed
  cap : q.cap ≡ t.cap
  top_is : q.top ≡ t.top

noted_leaves : (round : Round) (t : Slot) → SameBut t (slot_noted round t)
noted_leaves (rounds.Quiet r) t = record { free = refl; packed = refl; cap = refl; top_is = refl }
noted_leaves (rounds.Gather r f) t = record { free = refl; packed = refl; cap = refl; top_is = refl }
noted_leaves (rounds.Agreed r k) t = record { free = refl; packed = refl; cap = refl; top_is = refl }

map_same : {A : Type 0} (xs : List A) → map (λ x. x) xs ≡ xs
map_same [] = refl
map_same (x ∷ more) = ap (λ l. x ∷ l) (map_same more)

-- a conductor that keeps another sight, looks elsewhere, and has other marks
module _ (s : Setting) (o : Options) (w : WorldState) (sound : Sound s o w) (afloat : Afloat s w) (slot : SlotId) (sights : List (Option Sight)) (next_look : SlotId) (marks : List Bool) where
  abbrev d : ConductorState
  d = w.conductor

  abbrev sees : ConductorState
  sees = record d { sights = sights; next_look = next_look; noted = marks }

  abbrev seen_cut : CutState
  seen_cut = noted slot w.cut

  leaves : (name : SlotId) → SameBut (slot_of w.cut name) (slot_of seen_cut name)
  unfolding noted
  leaves name = record {
    free = kept_at (λ (q : Slot). q.free) (slot_noted w.cut.round) (opening_slot 0) (λ t. (noted_leaves w.cut.round t).free) w.cut.slots (slot_place w.cut.nodes slot) (slot_place w.cut.nodes name);
    packed = kept_at (λ (q : Slot). q.packed) (slot_noted w.cut.round) (opening_slot 0) (λ t. (noted_leaves w.cut.round t).packed) w.cut.slots (slot_place w.cut.nodes slot) (slot_place w.cut.nodes name);
    cap = kept_at (λ (q : Slot). q.cap) (slot_noted w.cut.round) (opening_slot 0) (λ t. (noted_leaves w.cut.round t).cap) w.cut.slots (slot_place w.cut.nodes slot) (slot_place w.cut.nodes name);
    top_is = kept_at (λ (q : Slot). q.top) (slot_noted w.cut.round) (opening_slot 0) (λ t. (noted_leaves w.cut.round t).top_is) w.cut.slots (slot_place w.cut.nodes slot) (slot_place w.cut.nodes name);
  }

  same_round : seen_cut.round ≡ w.cut.round
  unfolding noted
  same_round = refl

  stays_on : (name : SlotId) → SameStand w.cut seen_cut d sees (slot_of w.cut name) (slot_of seen_cut name)
  stays_on name = record {
    round = ap number same_round;
    free = (leaves name).free;
    packed = (leaves name).packed;
    cap = (leaves name).cap;
    top = (leaves name).top_is;
    ledger = refl;
    agreed = λ k h. h;
  }

  told_same : (letter : Letter) → Told letter d → Told letter sees
  told_same (letters.Parcel stamp entry k to payload) h = tt
  told_same (letters.Partial stamp r k node value) h = tt
  told_same (letters.Total stamp r k value) h = tt
  told_same (letters.Piece stamp piece) h = tt
  told_same (letters.VerdictOf first second node k verdict piece) h = h
  told_same (letters.Lend k fresh) h = tt
  told_same (letters.Take stamp k live piece) h = tt
  told_same (letters.Restore stamp k live) h = tt
  told_same (letters.Commit stamp k live) h = tt
  told_same (letters.Resume stamp) h = tt
  told_same (letters.Died stamp dead line) h = tt
  told_same letters.Stop h = tt

  phase_same : (floor : ℕ) (phase : Phase) (round : Round) → IsPhase d floor phase round → IsPhase sees floor phase round
  phase_same floor phases.Quiet (rounds.Quiet r) h = tt
  phase_same floor phases.Quiet (rounds.Gather r f) h = absurd h
  phase_same floor phases.Quiet (rounds.Agreed r k) h = absurd h
  phase_same floor phases.Gather (rounds.Quiet r) h = absurd h
  phase_same floor phases.Gather (rounds.Gather r f) h = h
  phase_same floor phases.Gather (rounds.Agreed r k) h = absurd h
  phase_same floor (phases.Agreed j) (rounds.Quiet r) h = absurd h
  phase_same floor (phases.Agreed j) (rounds.Gather r f) h = absurd h
  phase_same floor (phases.Agreed j) (rounds.Agreed r k) h = h

  abbrev itself : (x : SlotState) → Alike x x
  itself x = record { node = refl; box = refl; back = refl; since = refl }

  module _ (marked : d.phase ≡ phases.Gather → (name : SlotId) → is_noted marks s.nodes name ≡ true → IsSome (slot_of seen_cut name).noted) where
    beside_seen : Beside s seen_cut sees
    unfolding noted
    beside_seen = record {
      phase = phase_same w.cut.floor d.phase w.cut.round afloat.beside.phase;
      both = afloat.beside.both;
      counted = afloat.beside.counted;
      going = afloat.beside.going;
      every = afloat.beside.every;
      unended = afloat.beside.unended;
      up = afloat.beside.up;
      first = afloat.beside.first;
      second = afloat.beside.second;
      noted = marked;
    }

    turned_seen : Turned s w afloat seen_cut sees (λ x. x) itself
    turned_seen = record {
      ledger = refl;
      told = λ letter backed h. told_same letter h;
      slots = λ m x there h. slot_turned s w.cut seen_cut d sees afloat.log x x (stays_on x.node.slot) (itself x) (λ q. q) h;
      pairs = λ j hj x other b own there_x there_other one two alive theirs h. h;
      heard = afloat.heard;
      beside = beside_seen;
    }

    pub seen_afloat : Afloat s (record { posts = w.posts; cut = seen_cut; conductor = sees; over = w.over })
    seen_afloat = subst (λ l. Afloat s (record { posts = record { slots = l; desk = w.posts.desk }; cut = seen_cut; conductor = sees; over = w.over })) (map_same w.posts.slots)
        (turned_afloat s w afloat seen_cut sees (λ x. x) itself turned_seen)
