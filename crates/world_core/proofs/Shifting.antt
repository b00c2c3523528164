-- What each move of a slot leaves of its node beside its place in the agreement.
use Rattle.std.proofs.Common.{◌≡◌, ℕ, zero, suc, ◌≤◌, ◌<◌, Bool, true, false, cond, List, [], ◌∷◌, map, refl, ap, sym, ◌∙◌, arith, subst, inl, inr, Option, Some, None}
use Rattle.std.specs.Prelude.{◌⊎◌, ◌==◌, ◌&&◌, IfSome, is_none, max, not, slice_get}
use Rattle.std.proofs.lemmas.Bool.{eq-eqb, eqb-true}
use Rattle.std.proofs.lemmas.Option.{same_Some}
use Rattle.chare_base.specs.declared.plan.Plan.{Plan}
use Rattle.chare_base.specs.declared.slots.SlotId.{SlotId}
use Rattle.chare_base.specs.Placing.{Covers, Inhabitant, members_from}
use Rattle.fault_script.specs.declared.fault.Fault.{Fault}
use Rattle.iteration_agree.specs.declared.round.Leave.{Leave}
use Rattle.iteration_agree.specs.declared.round.Leave.TheVariants as leaves
use Rattle.iteration_agree.specs.declared.round.Round.{Round}
use Rattle.iteration_agree.specs.declared.round.Round.TheVariants.{Quiet, Gather, Agreed}
use Rattle.iteration_agree.specs.declared.slot.Cap.{Cap}
use Rattle.iteration_agree.specs.declared.slot.Slot.{Slot}
use Rattle.iteration_agree.specs.Cuts.{CutState, HasSlot, slot_of, slot_place}
use Rattle.iteration_agree.specs.Moves.{Allowed, Move, moved, mover}
use Rattle.iteration_agree.specs.Rounds.{number}
use Rattle.iteration_agree.specs.Slots.{cap_in, leave, limit, limit_seen, reported, slot_begun, slot_packed, slot_released, slot_reported, slot_rewound, slot_saw, standing_of, went}
use Rattle.iteration_agree.specs.Under.{IsCut, SawAgreed, SeenAs, UnderSlot}
use Rattle.iteration_agree.proofs.Holding.{has_place}
use Rattle.iteration_agree.proofs.Keeping.{one}
use Rattle.iteration_agree.proofs.OneSlot.{below, cap_here}
use Rattle.object_steps.specs.Objects.{Progress}
use Rattle.pup_state.specs.declared.piece.Piece.{Piece}
use Rattle.node_core.specs.Keeps.{Alive, AllAt, Keeps, element_of}
use Rattle.node_core.specs.Nodes.{Body, NodeState, node_packed, objects_of}
use Rattle.node_core.specs.Turns.{is_at}
use Rattle.world_core.specs.declared.doing.Since.{Since}
use Rattle.world_core.specs.declared.doing.Since.TheVariants.{Nothing, Resumed}
use Rattle.world_core.specs.Sound.{IsBounded, IsSince, begun_of, fresh_of}
use Rattle.world_core.proofs.Due.{PackDue, second}
use Rattle.world_core.proofs.Lists.{all_to}
use Rattle.world_core.proofs.Sides.{Beside, Known, Shift, StaysAt, if_to}
use Rattle.world_core.proofs.Staying.{Begun, packed_fresh, packed_objects}

-- ---- the agreement after a move of a slot

module _ (law : Known) (cut : CutState) (slot : SlotId) (holds : IsCut cut) (has : HasSlot cut slot) where
  pub shifts : (m : Move) → mover m ≡ Some slot → Allowed cut m → Shift cut slot (moved cut m)
  shifts m mine allowed = record {
    holds = law.keeps cut m holds allowed;
    nodes = (law.counted cut m).1;
    round = (law.stays cut m slot mine).round;
    others = λ other has_other apart. law.others cut m other holds allowed has_other (λ e. apart (sym (same_Some slot other (sym mine ∙ e))));
  }

  pub place_under : UnderSlot cut.round cut.floor cut.taking (slot_of cut slot)
  place_under = one cut (slot_place cut.nodes slot) (has_place cut slot holds has) holds.under

-- ---- it sees the round

saw_on : (k : ℕ) (round : Round) (floor : ℕ) (seen : Round) → SeenAs round floor seen → SawAgreed k seen → SawAgreed k round
saw_on k round floor (Quiet r) same h = absurd h
saw_on k round floor (Gather r f) same h = absurd h
saw_on k round floor (Agreed r j) same h = subst (λ x. SawAgreed k x) (sym same) h

still_seen : (k : ℕ) (round : Round) (floor : ℕ) (seen : Round) (cap : Option Cap) → number seen ≤ number round → IfSome cap (λ c. c.round ≤ number seen) → (number seen ≡ number round → SeenAs round floor seen) →
    (cap_in (number seen) cap ≡ None) ⊎ SawAgreed k seen → (cap_in (number round) cap ≡ None) ⊎ SawAgreed k round
still_seen k round floor seen None order early same h = inl refl
still_seen k round floor seen (Some c) order early same h = by (c.round == number round) refl
  where
    again : c.round ≡ number seen → number seen ≡ number round → (cap_in (number seen) (Some c) ≡ None) ⊎ SawAgreed k seen → (cap_in (number round) (Some c) ≡ None) ⊎ SawAgreed k round
    again own now (inl none) = absurd (let q : Some c.cap ≡ None = sym (cap_here c (number seen) own) ∙ none in cc)
    again own now (inr saw) = inr (saw_on k round floor seen (same now) saw)

    by : (b : Bool) → (c.round == number round) ≡ b → (cap_in (number round) (Some c) ≡ None) ⊎ SawAgreed k round
    by false t = inl (ap (λ b. cond b (Some c.cap) None) t)
    by true t =
        let here : c.round ≡ number round = eqb-true c.round (number round) t in
        again (omega (arith, here, early, order)) (omega (arith, here, early, order)) h

module _ (slot : Slot) (back : Option ℕ) (since : Since) (body : Option Body) where
  abbrev Here : Slot → Type 0
  Here new = Beside (standing_of new) back since body

  abbrev AllStay : Slot → Type 0
  AllStay new = IfSome (fresh_of body) (λ (piece : Piece). StaysAt piece.iteration (standing_of new))

  abbrev go_on : Slot → Type 0
  go_on new = (k : ℕ) → StaysAt k (standing_of slot) → StaysAt k (standing_of new)

  stay : (new : Slot) → go_on new → Here slot → AllStay new
  stay new on h = if_to (λ (piece : Piece). StaysAt piece.iteration (standing_of slot)) (λ (piece : Piece). StaysAt piece.iteration (standing_of new)) (fresh_of body) (λ piece h. on piece.iteration h) h.packed

  pub sees_beside : (round : Round) (floor : ℕ) (taking : _) → UnderSlot round floor taking slot → Here slot → Here (slot_saw round slot)
  sees_beside round floor taking under h = record {
    bounded = h.bounded;
    packed = stay (slot_saw round slot) (λ k on. record { held = on.held; top = on.top; seen = still_seen k round floor slot.seen slot.cap under.seen under.reported under.same on.seen }) h;
    orders = h.orders;
  }

  -- ---- it reports, where it is free

  pub reports_beside : slot.free ≡ true → Here slot → Here (slot_reported slot)
  reports_beside free h = record {
    bounded = h.bounded;
    packed = stay (slot_reported slot) (λ k on. absurd (let q : true ≡ false = sym free ∙ on.held in cc)) h;
    orders = h.orders;
  }

  -- ---- it is released, where it was resumed

  none_fresh : since ≡ Resumed → IsSince since (fresh_of body) → fresh_of body ≡ None
  none_fresh is h = subst (λ since. IsSince since (fresh_of body)) is h

  pub releases_beside : since ≡ Resumed → Here slot → Here (slot_released slot)
  releases_beside is h = record {
    bounded = h.bounded;
    packed = subst (λ fresh. IfSome fresh (λ (piece : Piece). StaysAt piece.iteration (standing_of (slot_released slot)))) (sym (none_fresh is h.orders)) tt;
    orders = h.orders;
  }

  -- ---- it begins an iteration

  limit_none : slot.free ≡ false → reported slot ≡ None → limit slot ≡ Some slot.top
  limit_none held none =
      ap (λ f. cond (not f && is_none (reported slot)) (Some slot.top) (limit_seen slot slot.seen)) held ∙ ap (λ (o : Option ℕ). cond (is_none o) (Some slot.top) (limit_seen slot slot.seen)) none

  limit_some : (j c : ℕ) → slot.free ≡ false → reported slot ≡ Some c → limit_seen slot slot.seen ≡ Some j → limit slot ≡ Some j
  limit_some j c held some seen =
      ap (λ f. cond (not f && is_none (reported slot)) (Some slot.top) (limit_seen slot slot.seen)) held ∙ ap (λ (o : Option ℕ). cond (is_none o) (Some slot.top) (limit_seen slot slot.seen)) some ∙ seen

  seen_limit : (k : ℕ) (seen : Round) → SawAgreed k seen → limit_seen slot seen ≡ Some k
  seen_limit k (Quiet r) h = absurd h
  seen_limit k (Gather r f) h = absurd h
  seen_limit k (Agreed r j) h = ap Some (sym h)

  -- a slot that stays begins what is below
  below_there : (j k : ℕ) → StaysAt k (standing_of slot) → leave slot j ≡ leaves.Go → j < k
  below_there j k on go = by on.seen (reported slot) refl
    where
      by : (reported slot ≡ None) ⊎ SawAgreed k slot.seen → (o : Option ℕ) → reported slot ≡ o → j < k
      by h None is = let low : j < slot.top = below (limit slot) slot.top j (limit_none on.held is) go in let top = on.top in omega (arith, low, top)
      by (inl none) (Some c) is = absurd (let q : None ≡ Some c = sym none ∙ is in cc)
      by (inr saw) (Some c) is = below (limit slot) k j (limit_some k c on.held is (seen_limit k slot.seen saw)) go

  raised : (top more : ℕ) → top ≤ more → IsBounded top None (objects_of body) → IsBounded more None (objects_of body)
  raised top more h all = all_to (Begun top) (Begun more) (objects_of body) (λ o few. let low : begun_of o ≤ top = few in omega (arith, low, h)) all

  pub begins_beside : (j : ℕ) → back ≡ None → Here slot → Here (slot_begun j slot)
  begins_beside j none h = by (leave slot j) refl
    where
      by : (l : Leave) → leave slot j ≡ l → Here (went slot j l)
      by (leaves.Hold limit) is = h
      by leaves.Go is = record {
        bounded = subst (λ b. IsBounded (max slot.top (suc j)) b (objects_of body)) (sym none)
            (raised slot.top (max slot.top (suc j)) (omega arith) (subst (λ b. IsBounded slot.top b (objects_of body)) none h.bounded));
        packed = stay (went slot j leaves.Go) (λ k on. let low = below_there j k on is in let top = on.top in record { held = on.held; top = omega (arith, low, top); seen = on.seen }) h;
        orders = h.orders;
      }

-- ---- it goes back, where all its elements are at the base

none_lives : (i : ℕ) (place : List ℕ) (e j : ℕ) → slice_get place e ≡ Some j → members_from i place j ≡ [] → ⊥
none_lives i [] e j there none = absurd (let q : None ≡ Some j = there in cc)
none_lives i (node ∷ more) zero j there none =
    let here : (node == j) ≡ true = eq-eqb node j (same_Some node j there) in
    let q : i ∷ members_from (suc i) more j ≡ [] = sym (ap (λ b. cond b (i ∷ members_from (suc i) more j) (members_from (suc i) more j)) here) ∙ none in
    absurd cc
none_lives i (node ∷ more) (suc e) j there none = by (node == j) (none_lives (suc i) more e j there) none
  where
    by : (b : Bool) → (members_from (suc i) more j ≡ [] → ⊥) → cond b (i ∷ members_from (suc i) more j) (members_from (suc i) more j) ≡ [] → ⊥
    by true rest h = absurd (let q : i ∷ members_from (suc i) more j ≡ [] = h in cc)
    by false rest h = rest h

-- elements are at one iteration
one_at : (a b : ℕ) (all : List Progress) → (all ≡ [] → ⊥) → AllAt a all → AllAt b all → a ≡ b
one_at a b [] some at_a at_b = absurd (some refl)
one_at a b (o ∷ more) some at_a at_b = sym (eqb-true o.done a (second (is_none o.step) (o.done == a) at_a.0)) ∙ eqb-true o.done b (second (is_none o.step) (o.done == b) at_b.0)

begun_at : (base : ℕ) (o : Progress) → is_at base o ≡ true → Begun base o
begun_at base o h = by (is_none o.step) h
  where
    by : (b : Bool) → (b && o.done == base) ≡ true → cond b o.done (suc o.done) ≤ base
    by true h = let same : o.done ≡ base = eqb-true o.done base h in omega (arith, same)
    by false h = absurd (let e : false ≡ true = h in cc)

module _ (p : Plan) (script : List Fault) (place : List ℕ) (nodes : ℕ) (covers : Covers place nodes) (n : NodeState) (keeps : Keeps p script place n) (few : n.slot.node < nodes) where
  -- a live node has an element
  some_element : (b : Body) → Alive p script place n b → b.objects ≡ [] → ⊥
  some_element b alive none =
      let lives : Inhabitant place n.slot.node = covers.inhabited n.slot.node few in
      none_lives 0 place lives.element n.slot.node lives.lives (sym alive.members ∙ ap (map element_of) none)

  -- so a piece that it packed is of the base
  of_base : (base : ℕ) (body : Option Body) → IfSome body (Alive p script place n) → AllAt base (objects_of body) → IfSome (fresh_of body) (λ (piece : Piece). base ≡ piece.iteration)
  of_base base None alive at = tt
  of_base base (Some b) alive at = by b.fresh alive.packed
    where
      by : (fresh : Option Piece) → IfSome fresh (λ (piece : Piece). AllAt piece.iteration b.objects) → IfSome fresh (λ (piece : Piece). base ≡ piece.iteration)
      by None h = tt
      by (Some piece) h = one_at base piece.iteration b.objects (some_element b alive) at h

  pub rewinds_beside : (slot : Slot) (base : ℕ) (since : Since) → Beside (standing_of slot) (Some base) since n.body → Beside (standing_of (slot_rewound base slot)) None since n.body
  rewinds_beside slot base since h = record {
    bounded = all_to (λ o. is_at base o ≡ true) (Begun base) (objects_of n.body) (begun_at base) h.bounded;
    packed = both (fresh_of n.body) h.packed (of_base base n.body keeps.body h.bounded);
    orders = h.orders;
  }
    where
      both : (fresh : Option Piece) → IfSome fresh (λ (piece : Piece). StaysAt piece.iteration (standing_of slot)) → IfSome fresh (λ (piece : Piece). base ≡ piece.iteration) →
          IfSome fresh (λ (piece : Piece). StaysAt piece.iteration (standing_of (slot_rewound base slot)))
      both None on is = tt
      both (Some piece) on is = record { held = on.held; top = omega (arith, is); seen = on.seen }

-- ---- it packs

pub packs_beside : (p : Plan) (script : List Fault) (n : NodeState) (slot : Slot) (k : ℕ) (back : Option ℕ) (since : Since) → PackDue p n (standing_of slot) k → Beside (standing_of slot) back since n.body →
    Beside (standing_of (slot_packed slot)) back Nothing (node_packed p script k n).node.body
packs_beside p script n slot k back since due h = record {
  bounded = bounded back h.bounded;
  packed = packed_fresh (λ (piece : Piece). StaysAt piece.iteration (standing_of (slot_packed slot))) p script k n stays;
  orders = tt;
}
  where
    bounded : (back : Option ℕ) → IsBounded slot.top back (objects_of n.body) → IsBounded slot.top back (objects_of (node_packed p script k n).node.body)
    bounded None all = packed_objects (Begun slot.top) p script k n all
    bounded (Some base) all = packed_objects (λ o. is_at base o ≡ true) p script k n all

    stays : (piece : Piece) → piece.iteration ≡ k → StaysAt piece.iteration (standing_of (slot_packed slot))
    stays piece is = let top : slot.top ≡ k = due.top in record { held = refl; top = omega (arith, is, top); seen = inr (subst (λ m. SawAgreed m slot.seen) (sym is) due.seen) }
