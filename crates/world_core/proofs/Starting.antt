-- At the start nothing is lost.
use Rattle.std.proofs.Common.{◌≡◌, ℕ, zero, suc, ◌<◌, ◌≤◌, inl, inr, true, false, List, [], ◌∷◌, ◌++◌, refl, ap, sym, arith, subst, None, IsSome}
use Rattle.std.specs.Prelude.{◌⊎◌, IfSome, replicate, slice_index_or}
use Rattle.std.specs.List.{AllByRecursion}
use Rattle.chare_base.specs.declared.options.Options.{Options}
use Rattle.chare_base.specs.declared.plan.Plan.{Plan}
use Rattle.chare_base.specs.declared.slots.LineSet.{LineSet}
use Rattle.chare_base.specs.declared.slots.SlotId.{SlotId}
use Rattle.chare_base.specs.Placing.{members}
use Rattle.chare_base.proofs.Facts.{iterations_some}
use Rattle.iteration_agree.specs.declared.slot.Cap.{Cap}
use Rattle.iteration_agree.specs.declared.slot.Slot.{Slot}
use Rattle.iteration_agree.specs.Cuts.{opening_cut, opening_slots, slot_of, slot_place}
use Rattle.iteration_agree.specs.Rounds.{number}
use Rattle.iteration_agree.specs.Slots.{opening_slot}
use Rattle.letter_post.specs.declared.stamp.Stamp.{Stamp}
use Rattle.node_core.specs.Mail.{AllNumbered, Contributed, Owes, Paid}
use Rattle.node_core.specs.Nodes.{Body, NodeState}
use Rattle.node_core.specs.Starts.{opening_body, opening_stamp, start_state, starts}
use Rattle.conductor_core.specs.declared.wants.Phase.TheVariants as phases
use Rattle.conductor_core.specs.Conductors.{ConductorState, start_conductor}
use Rattle.conductor_core.specs.Moves.{slot_named}
use Rattle.conductor_core.specs.Openings.{all_lines}
use Rattle.conductor_core.specs.Tells.{verdict_at}
use Rattle.world_core.specs.Still.{Afloat, Beside, Free, IsPlain, SlotAfloat, StartIsAfloat, pieces_in, plain_stamp, present}
use Rattle.world_core.specs.Worlds.{Setting, SlotState, opening_slot_at, opening_world}
use Rattle.world_core.specs.Worlds as worlds
use Rattle.world_core.proofs.Lists.{all_behind, all_got, all_joined}
use Rattle.world_core.proofs.Mailing.{slot_is}

-- ---- a node

starts_paid : (p : Plan) (place : List ℕ) (stamp : Stamp) (es : List ℕ) → AllByRecursion (Paid p place stamp []) (starts p es)
starts_paid p place stamp [] = tt
starts_paid p place stamp (e ∷ more) = (λ x s q f k sends past. first k past, starts_paid p place stamp more)
  where
    first : {R : Type 0} (k : ℕ) → (k < 0) ⊎ ((k ≡ 0) × ⊥) → R
    first k (inl h) = absurd (omega (arith, h))
    first k (inr h) = absurd h.1

starts_contributed : (p : Plan) (n : NodeState) (b : Body) (i : ℕ) (es : List ℕ) → AllNumbered (Contributed p n b []) i (starts p es)
starts_contributed p n b i [] = tt
starts_contributed p n b i (e ∷ more) = (λ r s q k gives past. first k past, starts_contributed p n b (suc i) more)
  where
    first : {R : Type 0} (k : ℕ) → (k < 0) ⊎ ((k ≡ 0) × ⊥) → R
    first k (inl h) = absurd (omega (arith, h))
    first k (inr h) = absurd h.1

start_owes : (s : Setting) (K : ℕ) (slot : SlotId) (live : LineSet) → Owes s.plan s.place K [] (start_state s.plan s.script s.place slot live)
unfolding start_state
start_owes s K slot live = record {
  objects = starts_paid s.plan s.place (opening_stamp s.script slot live) (members s.place slot.node);
  contributed = starts_contributed s.plan (start_state s.plan s.script s.place slot live) (opening_body s.plan (starts s.plan (members s.place slot.node)) slot.node live) 0 (members s.place slot.node);
  piece = λ one. tt;
  verdict = λ zero. tt;
  fresh = tt;
  other = tt;
}

-- ---- the agreement

-- a place of the agreement as at the start
record AtOpening (t : Slot) : Type 0 where
  free : t.free ≡ true
  packed : t.packed ≡ None
  top : t.top ≡ 0
  cap : t.cap ≡ None

index_all : (P : Slot → Type 0) (xs : List Slot) (i : ℕ) (d : Slot) → P d → AllByRecursion P xs → P (slice_index_or xs i d)
index_all P [] i d h all = h
index_all P (x ∷ more) zero d h all = all.0
index_all P (x ∷ more) (suc i) d h all = index_all P more i d h all.1

replicate_all : (P : Slot → Type 0) (n : ℕ) (x : Slot) → P x → AllByRecursion P (replicate n x)
replicate_all P zero x h = tt
replicate_all P (suc n) x h = (h, replicate_all P n x h)

at_opening : (nodes : ℕ) (slot : SlotId) → AtOpening (slot_of (opening_cut nodes) slot)
unfolding opening_cut
at_opening nodes slot =
    index_all AtOpening (opening_slots nodes) (slot_place nodes slot) (opening_slot 0) (one 0)
    (all_joined AtOpening (replicate nodes (opening_slot 0)) (replicate nodes (opening_slot 1)) (replicate_all AtOpening nodes (opening_slot 0) (one 0)) (replicate_all AtOpening nodes (opening_slot 1) (one 1)))
  where
    one : (r : ℕ) → AtOpening (opening_slot r)
    one r = record { free = refl; packed = refl; top = refl; cap = refl }

-- ---- a slot

no_flips : (s : Setting) (slot : SlotId) → s.script ≡ [] → opening_stamp s.script slot (record { 0 = all_lines s.script }) ≡ plain_stamp slot.replica
no_flips s slot none = ap (λ l. opening_stamp l slot (record { 0 = all_lines l })) none

module _ (s : Setting) (o : Options) (plain : IsPlain s o) where
  abbrev first : ConductorState
  first = start_conductor s.script o s.plan.iterations

  abbrev live : LineSet
  live = record { 0 = all_lines s.script }

  slot_afloat : (r j : ℕ) → SlotAfloat s (opening_cut s.nodes) first [] (opening_slot_at s r j)
  unfolding start_state start_conductor
  slot_afloat r j =
      let slot : SlotId = record { replica = r; node = j } in
      let at : AtOpening (slot_of (opening_cut s.nodes) slot) = at_opening s.nodes slot in
      let top = at.top in
      record {
        body = opening_body s.plan (starts s.plan (members s.place j)) j live;
        alive = refl;
        stamp = no_flips s slot plain.none;
        owes = start_owes s (present first) slot live;
        back = refl;
        stage = Free (record { free = at.free; fresh = refl; goes = refl; orders = refl; base = refl; packed = subst (λ q. IfSome q (λ n. n < number (opening_cut s.nodes).round)) (sym at.packed) tt });
        top = omega (arith, top);
        cap = subst (λ q. IfSome q (λ (c : Cap). c.cap ≤ s.plan.iterations)) (sym at.cap) tt;
        others = λ one. refl;
        buddy = tt;
      }

  slots_afloat : (r n : ℕ) → AllByRecursion (SlotAfloat s (opening_cut s.nodes) first []) (worlds.opening_slots s r n)
  slots_afloat r zero = tt
  slots_afloat r (suc n) = all_behind (SlotAfloat s (opening_cut s.nodes) first []) (worlds.opening_slots s r n) (opening_slot_at s r n) (slots_afloat r n) (slot_afloat r n)

  -- no letter lies about
  empty : (r n : ℕ) → AllByRecursion (λ (x : SlotState). pieces_in x.box ≡ []) (worlds.opening_slots s r n)
  empty r zero = tt
  empty r (suc n) = all_behind (λ (x : SlotState). pieces_in x.box ≡ []) (worlds.opening_slots s r n) (opening_slot_at s r n) (empty r n) refl

  all_empty : AllByRecursion (λ (x : SlotState). pieces_in x.box ≡ []) (worlds.opening_slots s 0 s.nodes ++ worlds.opening_slots s 1 s.nodes)
  all_empty = all_joined (λ (x : SlotState). pieces_in x.box ≡ []) (worlds.opening_slots s 0 s.nodes) (worlds.opening_slots s 1 s.nodes) (empty 0 s.nodes) (empty 1 s.nodes)

  unheard : (n j : ℕ) → IsSome (verdict_at (replicate n None) j) → ⊥
  unheard zero j h = let q : false ≡ true = h in cc
  unheard (suc n) zero h = let q : false ≡ true = h in cc
  unheard (suc n) (suc j) h = unheard n j h

  beside : Beside s (opening_cut s.nodes) first
  unfolding start_conductor opening_cut
  beside = record {
    phase = tt;
    both = refl;
    counted = omega arith;
    going = let some = iterations_some s.plan in omega (arith, some);
    every = plain.every;
    unended = refl;
    up = refl;
    first = ap (λ l. (start_conductor l o s.plan.iterations).first) plain.none;
    second = ap (λ l. (start_conductor l o s.plan.iterations).second) plain.none;
    noted = λ h slot is. let q : phases.Quiet ≡ phases.Gather = h in cc;
  }

  pub opening_afloat : Afloat s (opening_world s o)
  unfolding opening_world start_conductor
  opening_afloat = record {
    log = [];
    arrived = tt;
    backed = tt;
    over = λ r x k j hr hx early hj. absurd (omega (arith, early));
    slots = all_joined (SlotAfloat s (opening_cut s.nodes) first []) (worlds.opening_slots s 0 s.nodes) (worlds.opening_slots s 1 s.nodes) (slots_afloat 0 s.nodes) (slots_afloat 1 s.nodes);
    pairs = λ j hj x other b own there at alive its.
        all_got (λ (y : SlotState). pieces_in y.box ≡ []) (worlds.opening_slots s 0 s.nodes ++ worlds.opening_slots s 1 s.nodes) (worlds.number_of s.nodes (slot_named 0 j)) x all_empty
        (slot_is s.nodes (worlds.opening_slots s 0 s.nodes ++ worlds.opening_slots s 1 s.nodes) (slot_named 0 j) x there).there;
    desk = tt;
    heard = λ j some. absurd (unheard o.nodes j some);
    beside = beside;
  }

pub start_afloat : StartIsAfloat
start_afloat s o plain = opening_afloat s o plain
