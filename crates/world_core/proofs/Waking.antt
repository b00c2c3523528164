-- What runs, packs and mail leave of a live node's pieces, and which letters they send.
use Rattle.std.proofs.Common.{ap, ◌≡◌, ℕ, ℤ, Bool, true, false, cond, List, [], ◌∷◌, length, refl, sym, ◌∙◌, subst, Option, Some, None}
use Rattle.std.specs.Prelude.{◌==◌, ◌&&◌, is_none, map, slice_get}
use Rattle.std.specs.List.{AllByRecursion}
use Rattle.std.proofs.lemmas.Bool.{eq-eqb}
use Rattle.chare_base.specs.declared.message.EntryId.{EntryId}
use Rattle.chare_base.specs.declared.message.Payload.{Payload}
use Rattle.chare_base.specs.declared.message.ReductionId.{ReductionId}
use Rattle.chare_base.specs.declared.plan.ElementId.{ElementId}
use Rattle.chare_base.specs.declared.plan.Plan.{Plan}
use Rattle.chare_base.specs.declared.plan.Reduction.{Reduction}
use Rattle.chare_base.specs.declared.plan.Spot.{Spot}
use Rattle.chare_base.specs.declared.slots.SlotId.{SlotId}
use Rattle.chare_base.specs.Entries.{reduction_of}
use Rattle.chare_base.specs.Flip.{Flip}
use Rattle.chare_eval.specs.declared.effects.Outgoing.{Outgoing}
use Rattle.chare_eval.specs.declared.effects.Outgoing.TheVariants as outgoing
use Rattle.letter_post.specs.declared.letter.Letter.{Letter}
use Rattle.letter_post.specs.declared.letter.Letter.TheVariants as letters
use Rattle.letter_post.specs.declared.letter.Sent.{Sent}
use Rattle.letter_post.specs.declared.stamp.Stamp.{Stamp}
use Rattle.letter_post.specs.Stamps.{lines_of, same_stamp}
use Rattle.object_steps.specs.Objects.{Progress}
use Rattle.pup_state.specs.declared.piece.Piece.{Piece}
use Rattle.node_core.specs.declared.piece.Held.{Held}
use Rattle.node_core.specs.declared.turn.Sender.{Sender}
use Rattle.node_core.specs.Nodes.{Body, Heard, NodeState, Outcome, Passing, Ran, body_heard, body_packed, body_ran, body_ran_at, body_ran_by, compared, contributed_to, idle_of, is_new, node_heard, node_heard_by, node_packed, node_packed_by, node_ran, node_ran_by, out_of, outcome_of, pack_sends, parcel_heard, parcel_of, partial_heard, partial_sent, passed, passed_one, piece_kept, piece_of, sender_of, share_heard, stands, total_heard, total_sent, total_to, turn_of, unmoved, with_heard, with_tallied}
use Rattle.node_core.specs.Rosters.{Roster, count_of, number_in, seat_of, sharers_of}
use Rattle.node_core.specs.Turns.{Turned, begins, turned}
use Rattle.node_core.specs.Gatherings.{tallied}
use Rattle.fault_script.specs.declared.fault.Fault.{Fault}
use Rattle.letter_post.specs.Orders.{is_mail, order_of, Order}
use Rattle.node_core.specs.Nodes.{node_heard_as}
use Rattle.world_core.proofs.Lists.{all_joined}

-- a letter of the elements' own: no piece, no verdict and no order
abbrev pub IsPlainMail : Letter → Type 0
IsPlainMail (letters.Parcel stamp entry k to payload) = Unit {0}
IsPlainMail (letters.Partial stamp r k node value) = Unit {0}
IsPlainMail (letters.Total stamp r k value) = Unit {0}
IsPlainMail (letters.Piece stamp piece) = ⊥
IsPlainMail (letters.VerdictOf first second node k verdict piece) = ⊥
IsPlainMail (letters.Lend k fresh) = ⊥
IsPlainMail (letters.Take stamp k live piece) = ⊥
IsPlainMail (letters.Restore stamp k live) = ⊥
IsPlainMail (letters.Commit stamp k live) = ⊥
IsPlainMail (letters.Resume stamp) = ⊥
IsPlainMail (letters.Died stamp slot line) = ⊥
IsPlainMail letters.Stop = ⊥

abbrev pub SentPlain : Sent → Type 0
SentPlain sent = IsPlainMail sent.letter

-- a live node after an event that leaves its pieces
pub record Leaves (b : Body) (o : Outcome) : Type 0 where
  pub body : Body
  pub alive : o.node.body ≡ Some body
  pub waits : body.waits ≡ b.waits
  pub fresh : body.fresh ≡ b.fresh
  pub other : body.other ≡ b.other
  pub sends : AllByRecursion SentPlain o.out

-- ---- a run

share_plain : (sender : Sender) (r : ReductionId) (total : Option ℤ) → AllByRecursion SentPlain (partial_sent sender r total)
share_plain sender r None = tt
share_plain sender r (Some v) = (tt, tt)

passed_plain : (p : Plan) (place : List ℕ) (roster : Roster) (sender : Sender) (sent : List Outgoing) (on : Passing) → AllByRecursion SentPlain on.out → AllByRecursion SentPlain (passed p place roster sender sent on).out
passed_plain p place roster sender [] on h = h
passed_plain p place roster sender (outgoing.Parcel entry to payload ∷ more) on h =
    passed_plain p place roster sender more (passed_one p place roster sender (outgoing.Parcel entry to payload) on) (all_joined SentPlain on.out (parcel_of place sender entry to payload ∷ []) h (tt, tt))
passed_plain p place roster sender (outgoing.Contribution r v ∷ more) on h = passed_plain p place roster sender more (passed_one p place roster sender (outgoing.Contribution r v) on) (by (reduction_of p r.0))
  where
    test : (x : Reduction) (b : Bool) → AllByRecursion SentPlain (cond b (with_tallied sender r on (tallied x.how (count_of roster x.owner) sender.rank r sender.iteration v on.gatherings)) on).out
    test x true =
        all_joined SentPlain on.out (partial_sent sender r (tallied x.how (count_of roster x.owner) sender.rank r sender.iteration v on.gatherings).total) h
        (share_plain sender r (tallied x.how (count_of roster x.owner) sender.rank r sender.iteration v on.gatherings).total)
    test x false = h

    by : (o : Option Reduction) → AllByRecursion SentPlain (contributed_to roster sender r v on o).out
    by None = h
    by (Some x) = test x (x.owner == sender.array)

-- what a turn makes of a live node
record RanOn (b : Body) (r : Ran) : Type 0 where
  waits : r.body.waits ≡ b.waits
  fresh : r.body.fresh ≡ b.fresh
  other : r.body.other ≡ b.other
  sends : AllByRecursion SentPlain (out_of r.turn)

stands_on : (b : Body) → RanOn b (stands b)
stands_on b = record { waits = refl; fresh = refl; other = refl; sends = tt }

ran_on : (p : Plan) (lines : List Flip) (place : List ℕ) (limit e : ℕ) (slot : SlotId) (stamp : Stamp) (roster : Roster) (b : Body) → RanOn b (body_ran p lines place limit e slot stamp roster b)
unfolding body_ran
ran_on p lines place limit e slot stamp roster b = by b.waits
  where
    idle : (c : Bool) → AllByRecursion SentPlain (out_of (idle_of c))
    idle true = tt
    idle false = tt

    turn_on : (f : ElementId) (before : Bool) (spot : Option Spot) (out : List Sent) → AllByRecursion SentPlain out → AllByRecursion SentPlain (out_of (turn_of f before spot out))
    turn_on f before None out h = idle before
    turn_on f before (Some spot) out h = h

    there : (i : ℕ) (o : Option Progress) → RanOn b (body_ran_by p lines place limit slot stamp roster b i o)
    there i None = stands_on b
    there i (Some o) =
        let t : Turned = turned p lines limit o in
        record {
          waits = refl;
          fresh = refl;
          other = refl;
          sends = turn_on o.element (begins p.iterations o) t.spot (passed p place roster (sender_of p slot stamp roster i o) t.sent (record { gatherings = b.gatherings; out = [] })).out
              (passed_plain p place roster (sender_of p slot stamp roster i o) t.sent (record { gatherings = b.gatherings; out = [] }) tt);
        }

    at_seat : (seat : Option ℕ) → RanOn b (body_ran_at p lines place limit slot stamp roster b seat)
    at_seat None = stands_on b
    at_seat (Some i) = there i (slice_get b.objects i)

    by : (w : Bool) → RanOn b (cond w (stands b) (body_ran_at p lines place limit slot stamp roster b (seat_of roster e)))
    by true = stands_on b
    by false = at_seat (seat_of roster e)

pub ran_leaves : (p : Plan) (script : List Fault) (place : List ℕ) (limit e : ℕ) (n : NodeState) (b : Body) → n.body ≡ Some b → Leaves b (outcome_of (node_ran p script place limit e n))
unfolding node_ran
ran_leaves p script place limit e n b alive = subst (λ o. Leaves b (outcome_of (node_ran_by p script place limit e n o))) (sym alive) live
  where
    on : RanOn b (body_ran p (lines_of script n.last.stamp) place limit e n.slot n.last.stamp n.roster b)
    on = ran_on p (lines_of script n.last.stamp) place limit e n.slot n.last.stamp n.roster b

    live : Leaves b (outcome_of (node_ran_by p script place limit e n (Some b)))
    live = record { body = (body_ran p (lines_of script n.last.stamp) place limit e n.slot n.last.stamp n.roster b).body; alive = refl; waits = on.waits; fresh = on.fresh; other = on.other; sends = on.sends }

-- ---- a pack

pub record PacksOn (p : Plan) (k : ℕ) (n : NodeState) (b : Body) (o : Outcome) : Type 0 where
  pub body : Body
  pub alive : o.node.body ≡ Some body
  pub waits : body.waits ≡ b.waits
  pub fresh : body.fresh ≡ Some (piece_of p k n.slot.node b.objects)
  pub other : body.other ≡ b.other
  pub out : o.out ≡ pack_sends p n.slot n.last.stamp (piece_of p k n.slot.node b.objects) b.other

pub packs_on : (p : Plan) (script : List Fault) (k : ℕ) (n : NodeState) (b : Body) → n.body ≡ Some b → PacksOn p k n b (node_packed p script k n)
unfolding node_packed
packs_on p script k n b alive =
    subst (λ o. PacksOn p k n b (node_packed_by p script k n o)) (sym alive)
    (record { body = (body_packed p n.slot n.last.stamp b (piece_of p k n.slot.node b.objects)).body; alive = refl; waits = refl; fresh = refl; other = refl; out = refl })

-- ---- letters

-- all letters but a piece leave the pieces
abbrev pub IsNoPiece : Letter → Type 0
IsNoPiece (letters.Parcel stamp entry k to payload) = Unit {0}
IsNoPiece (letters.Partial stamp r k node value) = Unit {0}
IsNoPiece (letters.Total stamp r k value) = Unit {0}
IsNoPiece (letters.Piece stamp piece) = ⊥
IsNoPiece (letters.VerdictOf first second node k verdict piece) = Unit {0}
IsNoPiece (letters.Lend k fresh) = Unit {0}
IsNoPiece (letters.Take stamp k live piece) = Unit {0}
IsNoPiece (letters.Restore stamp k live) = Unit {0}
IsNoPiece (letters.Commit stamp k live) = Unit {0}
IsNoPiece (letters.Resume stamp) = Unit {0}
IsNoPiece (letters.Died stamp slot line) = Unit {0}
IsNoPiece letters.Stop = Unit {0}

record HeardOn (b : Body) (h : Heard) : Type 0 where
  waits : h.body.waits ≡ b.waits
  fresh : h.body.fresh ≡ b.fresh
  other : h.body.other ≡ b.other
  sends : AllByRecursion SentPlain h.out

still_on : (b : Body) → HeardOn b (unmoved b)
still_on b = record { waits = refl; fresh = refl; other = refl; sends = tt }

parcel_on : (roster : Roster) (k : ℕ) (entry : EntryId) (to : ElementId) (payload : Payload) (b : Body) (c : Bool) → HeardOn b (cond c (parcel_heard roster k entry to payload b) (unmoved b))
parcel_on roster k entry to payload b true = record { waits = refl; fresh = refl; other = refl; sends = tt }
parcel_on roster k entry to payload b false = still_on b

totals_plain : (replica : ℕ) (stamp : Stamp) (r : ReductionId) (k : ℕ) (sharers : List ℕ) (total : Option ℤ) → AllByRecursion SentPlain (total_sent replica stamp r k sharers total)
totals_plain replica stamp r k sharers None = tt
totals_plain replica stamp r k sharers (Some v) = each sharers
  where
    each : (nodes : List ℕ) → AllByRecursion SentPlain (map (total_to replica stamp r k v) nodes)
    each [] = tt
    each (j ∷ more) = (tt, each more)

share_on : (replica : ℕ) (stamp : Stamp) (r : ReductionId) (k : ℕ) (value : ℤ) (x : Reduction) (sharers : List ℕ) (b : Body) (o : Option ℕ) → HeardOn b (share_heard replica stamp r k value x sharers b o)
share_on replica stamp r k value x sharers b None = still_on b
share_on replica stamp r k value x sharers b (Some rank) = record {
  waits = refl;
  fresh = refl;
  other = refl;
  sends = totals_plain replica stamp r k sharers (tallied x.how (length sharers) rank r k value b.totals).total;
}

partial_on : (roster : Roster) (replica : ℕ) (stamp : Stamp) (r : ReductionId) (k node : ℕ) (value : ℤ) (b : Body) (o : Option Reduction) (c : Bool) →
    HeardOn b (cond c (partial_heard roster replica stamp r k node value b o) (unmoved b))
partial_on roster replica stamp r k node value b o false = still_on b
partial_on roster replica stamp r k node value b None true = still_on b
partial_on roster replica stamp r k node value b (Some x) true = share_on replica stamp r k value x (sharers_of roster x.owner) b (number_in 0 (sharers_of roster x.owner) node)

total_on : (p : Plan) (k : ℕ) (r : ReductionId) (value : ℤ) (b : Body) (o : Option Reduction) (c : Bool) → HeardOn b (cond c (total_heard p k r value b o) (unmoved b))
total_on p k r value b o false = still_on b
total_on p k r value b None true = still_on b
total_on p k r value b (Some x) true = record { waits = refl; fresh = refl; other = refl; sends = tt }

module _ (p : Plan) (script : List Fault) (place : List ℕ) where
  heard_on : (slot : SlotId) (own : Stamp) (roster : Roster) (b : Body) (letter : Letter) → IsNoPiece letter → HeardOn b (body_heard p script place slot own roster b letter)
  heard_on slot own roster b (letters.Parcel stamp entry k to payload) none = parcel_on roster k entry to payload b (same_stamp stamp own)
  heard_on slot own roster b (letters.Partial stamp r k node value) none = partial_on roster slot.replica own r k node value b (reduction_of p r.0) (same_stamp stamp own)
  heard_on slot own roster b (letters.Total stamp r k value) none = total_on p k r value b (reduction_of p r.0) (same_stamp stamp own)
  heard_on slot own roster b (letters.Piece stamp piece) none = absurd none
  heard_on slot own roster b (letters.VerdictOf first second node k verdict piece) none = still_on b
  heard_on slot own roster b (letters.Lend k fresh) none = still_on b
  heard_on slot own roster b (letters.Take stamp k live piece) none = still_on b
  heard_on slot own roster b (letters.Restore stamp k live) none = still_on b
  heard_on slot own roster b (letters.Commit stamp k live) none = still_on b
  heard_on slot own roster b (letters.Resume stamp) none = still_on b
  heard_on slot own roster b (letters.Died stamp dead line) none = still_on b
  heard_on slot own roster b letters.Stop none = still_on b

  none_order : (o : Option Order) → is_none o ≡ true → o ≡ None
  none_order None h = refl
  none_order (Some order) h = absurd (let q : false ≡ true = h in cc)

  pub heard_leaves : (letter : Letter) (n : NodeState) (b : Body) → n.body ≡ Some b → is_mail letter ≡ true → IsNoPiece letter → Leaves b (node_heard p script place letter n)
  unfolding node_heard
  heard_leaves letter n b alive mail none =
      subst (λ o. Leaves b (node_heard_as p script place letter n o)) (sym (none_order (order_of letter) mail)) (subst (λ o. Leaves b (node_heard_by p script place letter n o)) (sym alive) live)
    where
      on : HeardOn b (body_heard p script place n.slot n.last.stamp n.roster b letter)
      on = heard_on n.slot n.last.stamp n.roster b letter none

      live : Leaves b (node_heard_by p script place letter n (Some b))
      live = record { body = (body_heard p script place n.slot n.last.stamp n.roster b letter).body; alive = refl; waits = on.waits; fresh = on.fresh; other = on.other; sends = on.sends }

  -- a buddy's piece of this node that is new is kept, and compared
  pub record KeepsPiece (n : NodeState) (b : Body) (stamp : Stamp) (piece : Piece) (o : Outcome) : Type 0 where
    pub body : Body
    pub alive : o.node.body ≡ Some body
    pub waits : body.waits ≡ b.waits
    pub fresh : body.fresh ≡ b.fresh
    pub other : body.other ≡ Some (record { stamp = stamp; piece = piece })
    pub out : o.out ≡ compared p n.last.stamp b.fresh (Some (record { stamp = stamp; piece = piece }))

  pub piece_kept_on : (n : NodeState) (b : Body) (stamp : Stamp) (piece : Piece) → n.body ≡ Some b → piece.node ≡ n.slot.node → is_new stamp piece b.other ≡ true → KeepsPiece n b stamp piece (node_heard p script place (letters.Piece stamp piece) n)
  unfolding node_heard
  piece_kept_on n b stamp piece alive own new = subst (λ o. KeepsPiece n b stamp piece (node_heard_by p script place (letters.Piece stamp piece) n o)) (sym alive) live
    where
      held : Held
      held = record { stamp = stamp; piece = piece }

      tests : (piece.node == n.slot.node && is_new stamp piece b.other) ≡ true
      tests = ap (λ c. c && is_new stamp piece b.other) (eq-eqb piece.node n.slot.node own) ∙ new

      live : KeepsPiece n b stamp piece (with_heard n (cond (piece.node == n.slot.node && is_new stamp piece b.other) (piece_kept p n.last.stamp b held) (unmoved b)))
      live = subst (λ c. KeepsPiece n b stamp piece (with_heard n (cond c (piece_kept p n.last.stamp b held) (unmoved b)))) (sym tests)
          (record { body = (piece_kept p n.last.stamp b held).body; alive = refl; waits = refl; fresh = refl; other = refl; out = refl })
