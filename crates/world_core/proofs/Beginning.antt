-- The opening is sound.
use Rattle.std.proofs.Common.{◌≡◌, ℕ, zero, suc, ◌+◌, ◌*◌, ◌/◌, ◌%◌, ◌≤◌, cond, List, [], ◌∷◌, ◌++◌, map, refl, ap, sym, ◌∙◌, arith, subst}
use Rattle.std.specs.Prelude.{◌==◌, ◌&&◌, IfSome}
use Rattle.std.specs.List.{AllByRecursion}
use Rattle.chare_base.specs.declared.options.Options.{Options}
use Rattle.chare_base.specs.declared.plan.Plan.{Plan}
use Rattle.chare_base.specs.declared.slots.LineSet.{LineSet}
use Rattle.chare_base.specs.declared.slots.SlotId.{SlotId}
use Rattle.fault_script.specs.declared.fault.Fault.{Fault}
use Rattle.fault_script.specs.declared.fault.Fault.TheVariants as faults
use Rattle.fault_script.specs.Lines.{set_of}
use Rattle.iteration_agree.specs.Cuts.{opening_cut, slot_of}
use Rattle.letter_post.specs.declared.order.LastOrder.{LastOrder}
use Rattle.pup_state.specs.declared.piece.Piece.{Piece}
use Rattle.run_ledger.specs.Lines.{fresh_line, is_flip_of, shapes}
use Rattle.node_core.specs.Nodes.{NodeState, objects_of}
use Rattle.node_core.specs.Starts.{flips_replica, opening_stamp, replica_flips, start_state}
use Rattle.conductor_core.specs.Conductors.{ConductorState, start_conductor}
use Rattle.conductor_core.specs.Openings.{all_lines, is_any}
use Rattle.world_core.specs.declared.event.Event.{Event}
use Rattle.world_core.specs.Sound.{begun_of, EveryEventKeeps, EveryWorldIsSound, IsPlaced, SlotSound, Sound, StartIsSound, Stays, last_sent, names, names_to, slot_name}
use Rattle.world_core.specs.Worlds.{Setting, SlotState, WorldState, happens, opening_slot_at, opening_slots, opening_world, reached}
use Rattle.world_core.proofs.Lists.{all_behind, all_joined, all_to}
use Rattle.world_core.proofs.Sides.{Known}
use Rattle.world_core.proofs.Staying.{Begun, start_begun, start_fresh}

-- ---- the first stamps

same_flip : (r : ℕ) (f : Fault) → is_flip_of r f ≡ flips_replica r f
same_flip r (faults.Flip replica element cell mask at) = refl
same_flip r (faults.Crash slot at) = refl

-- of all lines, those that shape a replica are its flips
same_lines : (r : ℕ) (script : List Fault) → replica_flips r script (set_of is_any script) ≡ set_of (shapes r) (map fresh_line script)
same_lines r [] = refl
same_lines r (f ∷ more) =
    let all : ℕ = set_of is_any more in
    let odd : (1 + 2 * all) % 2 ≡ 1 = omega arith in
    let half : (1 + 2 * all) / 2 ≡ all = omega arith in
    ap (λ m. cond (m == 1 && flips_replica r f) 1 0 + 2 * replica_flips r more ((1 + 2 * all) / 2)) odd
    ∙ ap (λ h. cond (flips_replica r f) 1 0 + 2 * replica_flips r more h) half
    ∙ ap (λ b. cond b 1 0 + 2 * replica_flips r more all) (sym (same_flip r f))
    ∙ ap (λ n. cond (is_flip_of r f) 1 0 + 2 * n) (same_lines r more)

start_last : (p : Plan) (script : List Fault) (place : List ℕ) (slot : SlotId) (live : LineSet) → (start_state p script place slot live).last ≡ record { stamp = opening_stamp script slot live; base = 0 }
unfolding start_state
start_last p script place slot live = refl

start_slot : (p : Plan) (script : List Fault) (place : List ℕ) (slot : SlotId) (live : LineSet) → (start_state p script place slot live).slot ≡ slot
unfolding start_state
start_slot p script place slot live = refl

-- what a replica's nodes begin with is what the conductor begins with
first_order : (script : List Fault) (o : Options) (n r j : ℕ) → r ≤ 1 →
    ◌≡◌ {A = LastOrder} (record { stamp = opening_stamp script (record { replica = r; node = j }) (record { 0 = all_lines script }); base = 0 }) (last_sent (start_conductor script o n) r)
unfolding start_conductor
first_order script o n zero j h = ap (λ m. record { stamp = record { replica = 0; epoch = 0; lines = record { 0 = m } }; base = 0 }) (same_lines 0 script)
first_order script o n (suc zero) j h = ap (λ m. record { stamp = record { replica = 1; epoch = 0; lines = record { 0 = m } }; base = 0 }) (same_lines 1 script)
first_order script o n (suc (suc r)) j h = absurd (omega (arith, h))

-- ---- slots

module _ (law : Known) (s : Setting) (o : Options) (placed : IsPlaced s) where
  abbrev first : ConductorState
  first = start_conductor s.script o s.plan.iterations

  abbrev live : LineSet
  live = record { 0 = all_lines s.script }

  slot_starts : (r j : ℕ) → r ≤ 1 → SlotSound s (opening_cut s.nodes) first (opening_slot_at s r j)
  slot_starts r j h =
      let slot : SlotId = record { replica = r; node = j } in
      let n : NodeState = start_state s.plan s.script s.place slot live in
      let name : n.slot ≡ slot = start_slot s.plan s.script s.place slot live in
      record {
        keeps = law.starts s.plan s.script s.place slot live placed.count;
        letters = tt;
        chain = start_last s.plan s.script s.place slot live ∙ first_order s.script o s.plan.iterations r j h ∙ ap (λ (a : SlotId). last_sent first a.replica) (sym name);
        bounded = all_to (Begun 0) (Begun (slot_of (opening_cut s.nodes) n.slot).top) (objects_of n.body) (λ q few. let none : begun_of q ≤ 0 = few in omega (arith, none)) (start_begun s.plan s.script s.place slot live);
        packed = subst (λ fresh. IfSome fresh (λ (piece : Piece). Stays piece.iteration (slot_of (opening_cut s.nodes) n.slot))) (sym (start_fresh s.plan s.script s.place slot live)) tt;
        since = tt;
        seats = refl;
        current = refl;
      }

  slots_start : (r n : ℕ) → r ≤ 1 → AllByRecursion (SlotSound s (opening_cut s.nodes) first) (opening_slots s r n)
  slots_start r zero h = tt
  slots_start r (suc j) h = all_behind (SlotSound s (opening_cut s.nodes) first) (opening_slots s r j) (opening_slot_at s r j) (slots_start r j h) (slot_starts r j h)

  both_mapped : (xs ys : List SlotState) → map slot_name (xs ++ ys) ≡ map slot_name xs ++ map slot_name ys
  both_mapped [] ys = refl
  both_mapped (x ∷ xs) ys = ap (λ l. slot_name x ∷ l) (both_mapped xs ys)

  names_start : (r n : ℕ) → map slot_name (opening_slots s r n) ≡ names_to r n
  names_start r zero = refl
  names_start r (suc j) =
      both_mapped (opening_slots s r j) (opening_slot_at s r j ∷ [])
      ∙ ap (λ l. l ++ slot_name (opening_slot_at s r j) ∷ []) (names_start r j)
      ∙ ap (λ name. names_to r j ++ name ∷ []) (start_slot s.plan s.script s.place (record { replica = r; node = j }) live)

  all_names : map slot_name (opening_slots s 0 s.nodes ++ opening_slots s 1 s.nodes) ≡ names s.nodes
  all_names =
      both_mapped (opening_slots s 0 s.nodes) (opening_slots s 1 s.nodes)
      ∙ ap (λ l. l ++ map slot_name (opening_slots s 1 s.nodes)) (names_start 0 s.nodes)
      ∙ ap (λ l. names_to 0 s.nodes ++ l) (names_start 1 s.nodes)

cut_nodes : (nodes : ℕ) → (opening_cut nodes).nodes ≡ nodes
unfolding opening_cut
cut_nodes nodes = refl

pub start_sound : Known → StartIsSound
unfolding opening_world
start_sound law s o placed is = record {
  slots = all_joined (SlotSound s (opening_cut s.nodes) (start_conductor s.script o s.plan.iterations)) (opening_slots s 0 s.nodes) (opening_slots s 1 s.nodes)
      (slots_start law s o placed 0 s.nodes (omega arith)) (slots_start law s o placed 1 s.nodes (omega arith));
  names = all_names law s o placed;
  desk = tt;
  conductor = law.opens s.plan s.script o s.place;
  agreement = law.begins s.nodes is.few;
  nodes = cut_nodes s.nodes;
}

-- ---- any list of events

pub reached_sound : StartIsSound → EveryEventKeeps → EveryWorldIsSound
reached_sound start keep s o all placed is = on (opening_world s o) all (start s o placed is)
  where
    on : (w : WorldState) (all : List Event) → Sound s o w → Sound s o (reached s w all)
    on w [] sound = sound
    on w (event ∷ more) sound = on (happens s w event) more (keep s o w event placed is sound)
