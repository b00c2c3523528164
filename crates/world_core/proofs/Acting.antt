-- What an event of a slot makes of it.
use Rattle.std.proofs.Common.{◌≡◌, ℕ, ◌≤◌, ◌<◌, true, List, [], ◌∷◌, refl, sym, arith, subst, Option, Some, None}
use Rattle.std.specs.Prelude.{IfSome}
use Rattle.std.specs.List.{AllByRecursion}
use Rattle.chare_base.specs.declared.plan.ElementId.{ElementId}
use Rattle.chare_base.specs.declared.plan.Plan.{Plan}
use Rattle.chare_base.specs.Placing.{Covers}
use Rattle.iteration_agree.specs.declared.round.Standing.{Standing}
use Rattle.iteration_agree.specs.declared.slot.Slot.{Slot}
use Rattle.iteration_agree.specs.Cuts.{CutState, HasSlot, begun_by, packed_by, released_by, reported_by, rewound_by, seen_by, slot_of}
use Rattle.iteration_agree.specs.Laws.{SlotsMove}
use Rattle.iteration_agree.specs.Moves.{Begins, Packs, Releases, Reports, Rewinds, Sees}
use Rattle.iteration_agree.specs.Slots.{standing_of}
use Rattle.iteration_agree.specs.Under.{IsCut}
use Rattle.letter_post.specs.declared.letter.BoxId.TheVariants as boxes
use Rattle.letter_post.specs.declared.letter.Letter.{Letter}
use Rattle.letter_post.specs.declared.letter.Letter.TheVariants as letters
use Rattle.letter_post.specs.declared.order.LastOrder.{LastOrder}
use Rattle.letter_post.specs.Orders.{Chain, FollowsOrder, next_order}
use Rattle.letter_post.specs.Truth.{Holds}
use Rattle.object_steps.specs.Objects.{Progress}
use Rattle.pup_state.specs.declared.piece.Piece.{Piece}
use Rattle.node_core.specs.Keeps.{Capped, CappedBody, Keeps, KeepsOn, RestsAt}
use Rattle.node_core.specs.Nodes.{Body, NodeState, node_heard, node_packed, node_ran, objects_of, outcome_of, silent}
use Rattle.node_core.specs.Turns.{is_at}
use Rattle.world_core.specs.declared.doing.Doing.{Doing}
use Rattle.world_core.specs.declared.doing.Doing.TheVariants as doings
use Rattle.world_core.specs.declared.doing.Since.{Since}
use Rattle.world_core.specs.declared.doing.Since.TheVariants.{Nothing, Ordered, Resumed}
use Rattle.world_core.specs.declared.doing.SlotMove.{SlotMove}
use Rattle.world_core.specs.declared.doing.SlotMove.TheVariants as slot_moves
use Rattle.world_core.specs.Sound.{AllTrue, IsBounded, IsSince, fresh_of}
use Rattle.world_core.specs.Worlds.{Setting, SlotState, acted, back_after, does, ordered_after, resumed_after, since_after, slot_heard, slot_move, slot_moved_by, slot_ran_by, stand}
use Rattle.world_core.proofs.Due.{IsDue, PackDue, due_is, may_pack, may_release, may_report, may_rewind, resumed_is}
use Rattle.world_core.proofs.Shifting.{begins_beside, packs_beside, place_under, releases_beside, reports_beside, rewinds_beside, sees_beside, shifts}
use Rattle.world_core.proofs.Sides.{Beside, Known, Shift, Stands, StaysAt, Well, acted_well, if_to, same_cut, still_well}
use Rattle.world_core.proofs.Staying.{Begun, NodeStays, at_steady, begun_steady, commit_objects, mail_stays, ran_begun, ran_fresh, rests_fresh, rests_objects, resume_fresh, resume_objects}
use Rattle.world_core.proofs.Unordered.{heard_none, packed_none, ran_none}

-- a slot that stays has packed at its top or later
capped : (t : Standing) (body : Option Body) → IfSome (fresh_of body) (λ (piece : Piece). StaysAt piece.iteration t) → CappedBody t.top body
capped t None h = tt
capped t (Some b) h = if_to (λ (piece : Piece). StaysAt piece.iteration t) (λ (piece : Piece). t.top ≤ piece.iteration) b.fresh (λ piece on. on.top) h

pub stands_capped : (t : Standing) (back : Option ℕ) (since : Since) (n : NodeState) → Beside t back since n.body → Capped t.top n
stands_capped t back since n h = capped t n.body h.packed

-- ---- orders

-- an order leaves no fresh piece, so it may be any that was heard since
ordered_since : (since : Since) (fresh : Option Piece) → fresh ≡ None → IsSince (ordered_after since) fresh
ordered_since Nothing fresh none = none
ordered_since Ordered fresh none = none
ordered_since Resumed fresh none = none

resumed_since : (since : Since) (fresh old : Option Piece) → (old ≡ None → fresh ≡ None) → IsSince since old → IsSince (resumed_after since) fresh
resumed_since Nothing fresh old on h = tt
resumed_since Ordered fresh old on h = on h
resumed_since Resumed fresh old on h = on h

no_stay : (t : Standing) (fresh : Option Piece) → fresh ≡ None → IfSome fresh (λ (piece : Piece). StaysAt piece.iteration t)
no_stay t fresh none = subst (λ fresh. IfSome fresh (λ (piece : Piece). StaysAt piece.iteration t)) (sym none) tt

-- it has to go back to where its elements are
goes_back : (t : Standing) (k : ℕ) (since : Since) (body : Option Body) → IfSome body (RestsAt k) → Beside t (Some k) (ordered_after since) body
goes_back t k since body rest = record {
  bounded = rests_objects k body rest;
  packed = no_stay t (fresh_of body) (rests_fresh k body rest);
  orders = ordered_since since (fresh_of body) (rests_fresh k body rest);
}

bounded_on : (top : ℕ) (back : Option ℕ) (old new : List Progress) → ((P : Progress → Type 0) → AllByRecursion P old → AllByRecursion P new) → IsBounded top back old → IsBounded top back new
bounded_on top None old new on h = on (Begun top) h
bounded_on top (Some base) old new on h = on (λ o. is_at base o ≡ true) h

-- ---- mail

mail_beside : (t : Standing) (back : Option ℕ) (since : Since) (old new : Option Body) → NodeStays old new → Beside t back since old → Beside t back since new
mail_beside t back since old new stays h = record {
  bounded = bounded back h.bounded;
  packed = subst (λ fresh. IfSome fresh (λ (piece : Piece). StaysAt piece.iteration t)) (sym stays.fresh) h.packed;
  orders = subst (λ fresh. IsSince since fresh) (sym stays.fresh) h.orders;
}
  where
    bounded : (back : Option ℕ) → IsBounded t.top back (objects_of old) → IsBounded t.top back (objects_of new)
    bounded None all = stays.objects (Begun t.top) (begun_steady t.top) all
    bounded (Some base) all = stays.objects (λ o. is_at base o ≡ true) (at_steady base) all

module _ (law : Known) (s : Setting) (cut : CutState) (x : SlotState) where
  abbrev p : Plan
  p = s.plan

  abbrev t : Standing
  t = stand cut x.node.slot

  -- ---- it hears a letter

  heard_beside : (letter : Letter) → Keeps s.plan s.script s.place x.node → Holds s.plan s.script s.place (boxes.Slot x.node.slot) letter → FollowsOrder s.plan s.script x.node.last letter → Beside t x.back x.since x.node.body →
      Beside t (back_after letter x.back) (since_after letter x.since) (node_heard s.plan s.script s.place letter x.node).node.body
  unfolding node_heard
  heard_beside (letters.Parcel stamp entry k to payload) keeps is follows h = mail_beside t x.back x.since x.node.body _ (mail_stays s.plan s.script s.place (letters.Parcel stamp entry k to payload) x.node) h
  heard_beside (letters.Partial stamp r k node value) keeps is follows h = mail_beside t x.back x.since x.node.body _ (mail_stays s.plan s.script s.place (letters.Partial stamp r k node value) x.node) h
  heard_beside (letters.Total stamp r k value) keeps is follows h = mail_beside t x.back x.since x.node.body _ (mail_stays s.plan s.script s.place (letters.Total stamp r k value) x.node) h
  heard_beside (letters.Piece stamp piece) keeps is follows h = mail_beside t x.back x.since x.node.body _ (mail_stays s.plan s.script s.place (letters.Piece stamp piece) x.node) h
  heard_beside (letters.VerdictOf one other node k verdict piece) keeps is follows h =
      mail_beside t x.back x.since x.node.body _ (mail_stays s.plan s.script s.place (letters.VerdictOf one other node k verdict piece) x.node) h
  heard_beside (letters.Lend k fresh) keeps is follows h = mail_beside t x.back x.since x.node.body _ (mail_stays s.plan s.script s.place (letters.Lend k fresh) x.node) h
  heard_beside (letters.Died stamp dead line) keeps is follows h = mail_beside t x.back x.since x.node.body _ (mail_stays s.plan s.script s.place (letters.Died stamp dead line) x.node) h
  heard_beside letters.Stop keeps is follows h = mail_beside t x.back x.since x.node.body _ (mail_stays s.plan s.script s.place letters.Stop x.node) h
  heard_beside (letters.Take stamp k live piece) keeps is follows h = goes_back t k x.since _ (law.rest.takes s.plan s.script s.place x.node stamp k live piece keeps is)
  heard_beside (letters.Restore stamp k live) keeps is follows h = goes_back t k x.since _ (law.rest.restores s.plan s.script s.place x.node stamp k live keeps follows)
  heard_beside (letters.Commit stamp k live) keeps is follows h =
      let none = rests_fresh k _ (law.rest.commits s.plan s.script s.place x.node stamp k live) in
      record {
        bounded = bounded_on t.top x.back (objects_of x.node.body) _ (λ P all. commit_objects s.plan s.script s.place x.node P stamp k live all) h.bounded;
        packed = no_stay t _ none;
        orders = ordered_since x.since _ none;
      }
  heard_beside (letters.Resume stamp) keeps is follows h = record {
    bounded = bounded_on t.top x.back (objects_of x.node.body) _ (λ P all. resume_objects s.plan s.script s.place x.node P stamp all) h.bounded;
    packed = resume_fresh s.plan s.script s.place x.node (λ fresh. IfSome fresh (λ (piece : Piece). StaysAt piece.iteration t)) stamp tt h.packed;
    orders = resumed_since x.since _ (fresh_of x.node.body) (λ none. resume_fresh s.plan s.script s.place x.node (λ fresh. fresh ≡ None) stamp refl none) h.orders;
  }

  module _ (end : LastOrder) (holds : IsCut cut) (stands : Stands s cut.round (stand cut x.node.slot) x) where
    heard_well : (box : List Letter) → AllTrue s (boxes.Slot x.node.slot) box → Chain s.plan s.script x.node.last box end → x.box ≡ box → Well s cut x end (slot_heard s cut x box)
    heard_well [] all chain is = still_well s cut x end end holds stands (subst (λ box. Chain s.plan s.script x.node.last box end) (sym is) chain)
    heard_well (letter ∷ more) all chain is =
        acted_well s cut x end (next_order x.node.last letter) cut (node_heard s.plan s.script s.place letter x.node) more (back_after letter x.back) (since_after letter x.since)
        (law.hears s.plan s.script s.place letter x.node stands.keeps all.0 chain.0) (heard_none s.plan s.script s.place letter x.node) all.1
        (heard_beside letter stands.keeps all.0 chain.0 stands.beside) chain.1 (same_cut cut x.node.slot holds)

    module _ (chain : Chain s.plan s.script x.node.last x.box end) where
      -- ---- it runs a part

      ran_well : (e : ElementId) (back : Option ℕ) → x.back ≡ back → Well s cut x end (slot_ran_by s cut e x back)
      ran_well e (Some base) is = still_well s cut x end end holds stands chain
      ran_well e None is =
          let old : Beside t x.back x.since x.node.body = stands.beside in
          let fresh = ran_fresh s.plan s.script s.place t.top e.0 x.node in
          acted_well s cut x end x.node.last cut (outcome_of (node_ran s.plan s.script s.place t.top e.0 x.node)) x.box x.back x.since
          (law.runs s.plan s.script s.place t.top e.0 x.node stands.keeps (stands_capped t x.back x.since x.node old)) (ran_none s.plan s.script s.place t.top e.0 x.node) stands.letters
          (record {
            bounded = subst (λ b. IsBounded t.top b (objects_of (outcome_of (node_ran s.plan s.script s.place t.top e.0 x.node)).node.body)) (sym is)
                (ran_begun s.plan s.script s.place t.top e.0 x.node (subst (λ b. IsBounded t.top b (objects_of x.node.body)) is old.bounded));
            packed = subst (λ fresh. IfSome fresh (λ (piece : Piece). StaysAt piece.iteration t)) (sym fresh) old.packed;
            orders = subst (λ fresh. IsSince x.since fresh) (sym fresh) old.orders;
          })
          chain (same_cut cut x.node.slot holds)

      -- ---- it moves

      module _ (has : HasSlot cut x.node.slot) (covers : Covers s.place s.nodes) (few : x.node.slot.node < s.nodes) where
        abbrev here : Slot
        here = slot_of cut x.node.slot

        moves : SlotsMove cut x.node.slot
        moves = law.each cut x.node.slot holds has

        -- its node is as it was
        silent_on : KeepsOn s.plan s.script s.place x.node x.node.last (silent x.node)
        silent_on = record { slot = refl; last = refl; roster = refl; keeps = stands.keeps; says = tt }

        shifted_well : (new : CutState) (place : Slot) (back : Option ℕ) → slot_of new x.node.slot ≡ place → Shift cut x.node.slot new → Beside (standing_of place) back x.since x.node.body →
            Well s cut x end (acted s.plan new (silent x.node) x.box back x.since)
        shifted_well new place back is shift beside =
            acted_well s cut x end x.node.last new (silent x.node) x.box back x.since silent_on tt stands.letters (subst (λ a. Beside (standing_of a) back x.since x.node.body) (sym is) beside) chain shift

        moved_well : (o : Option SlotMove) → slot_move s.plan cut x ≡ o → Well s cut x end (slot_moved_by s cut x o)
        moved_well None is = still_well s cut x end end holds stands chain
        moved_well (Some slot_moves.See) is =
            shifted_well (seen_by x.node.slot cut) _ x.back moves.sees (shifts law cut x.node.slot holds has (Sees x.node.slot) refl has)
            (sees_beside here x.back x.since x.node.body cut.round cut.floor cut.taking (place_under law cut x.node.slot holds has) stands.beside)
        moved_well (Some (slot_moves.Rewind base)) is =
            let due : IsDue s.plan x.node t x.back x.since (slot_moves.Rewind base) = due_is s.plan x.node t x.back x.since cut.round (slot_moves.Rewind base) is in
            shifted_well (rewound_by x.node.slot base cut) _ None (moves.rewinds base) (shifts law cut x.node.slot holds has (Rewinds x.node.slot base) refl (has, may_rewind base here due.1))
            (rewinds_beside s.plan s.script s.place s.nodes covers x.node stands.keeps few here base x.since (subst (λ b. Beside t b x.since x.node.body) due.0 stands.beside))
        moved_well (Some slot_moves.Release) is =
            let due : IsDue s.plan x.node t x.back x.since slot_moves.Release = due_is s.plan x.node t x.back x.since cut.round slot_moves.Release is in
            shifted_well (released_by x.node.slot cut) _ x.back moves.releases (shifts law cut x.node.slot holds has (Releases x.node.slot) refl (has, may_release here x.since due.1))
            (releases_beside here x.back x.since x.node.body (resumed_is t x.since due.1) stands.beside)
        moved_well (Some slot_moves.Report) is =
            let due : IsDue s.plan x.node t x.back x.since slot_moves.Report = due_is s.plan x.node t x.back x.since cut.round slot_moves.Report is in
            let may = may_report here due.1 in
            shifted_well (reported_by x.node.slot cut) _ x.back moves.reports (shifts law cut x.node.slot holds has (Reports x.node.slot) refl (has, may))
            (reports_beside here x.back x.since x.node.body may.free stands.beside)
        moved_well (Some (slot_moves.Pack k)) is =
            let due : IsDue s.plan x.node t x.back x.since (slot_moves.Pack k) = due_is s.plan x.node t x.back x.since cut.round (slot_moves.Pack k) is in
            let pack : PackDue s.plan x.node t k = due.1 in
            acted_well s cut x end x.node.last (packed_by x.node.slot cut) (node_packed s.plan s.script k x.node) x.box x.back Nothing
            (law.packs s.plan s.script s.place k x.node stands.keeps pack.all pack.within) (packed_none s.plan s.script k x.node) stands.letters
            (subst (λ a. Beside (standing_of a) x.back Nothing (node_packed s.plan s.script k x.node).node.body) (sym moves.packs) (packs_beside s.plan s.script x.node here k x.back x.since pack stands.beside))
            chain (shifts law cut x.node.slot holds has (Packs x.node.slot) refl (has, may_pack s.plan x.node here k pack))
        moved_well (Some (slot_moves.Begin k)) is =
            let due : IsDue s.plan x.node t x.back x.since (slot_moves.Begin k) = due_is s.plan x.node t x.back x.since cut.round (slot_moves.Begin k) is in
            let same : k ≡ here.top = due.1 in
            shifted_well (begun_by x.node.slot k cut) _ x.back (moves.begins k)
            (shifts law cut x.node.slot holds has (Begins x.node.slot k) refl (has, record { below = omega (arith, same); few = due.2 }))
            (begins_beside here x.back x.since x.node.body k due.0 stands.beside)

        -- ---- whatever it does

        pub does_well : (d : Doing) → Well s cut x end (does s cut d x)
        does_well doings.Hear = heard_well x.box stands.letters chain refl
        does_well doings.Move = moved_well (slot_move s.plan cut x) refl
        does_well (doings.Run e) = ran_well e x.back refl
