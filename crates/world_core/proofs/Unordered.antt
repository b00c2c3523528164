-- What nodes send are no orders.
use Rattle.std.proofs.Common.{◌≡◌, ℕ, ℤ, Bool, true, false, cond, List, [], ◌∷◌, refl, Option, Some, None}
use Rattle.std.specs.Prelude.{◌==◌, ◌&&◌, slice_get}
use Rattle.std.specs.List.{AllByRecursion}
use Rattle.chare_base.specs.declared.message.ReductionId.{ReductionId}
use Rattle.chare_base.specs.declared.plan.ElementId.{ElementId}
use Rattle.chare_base.specs.declared.plan.Plan.{Plan}
use Rattle.chare_base.specs.declared.plan.Reduction.{Reduction}
use Rattle.chare_base.specs.declared.plan.Spot.{Spot}
use Rattle.chare_base.specs.declared.slots.SlotId.{SlotId}
use Rattle.chare_base.specs.Entries.{reduction_of}
use Rattle.chare_base.specs.Flip.{Flip}
use Rattle.chare_eval.specs.declared.effects.Outgoing.{Outgoing}
use Rattle.chare_eval.specs.declared.effects.Outgoing.TheVariants as outgoing
use Rattle.fault_script.specs.declared.fault.Fault.{Fault}
use Rattle.letter_post.specs.declared.letter.Letter.{Letter}
use Rattle.letter_post.specs.declared.letter.Letter.TheVariants as letters
use Rattle.letter_post.specs.declared.letter.Sent.{Sent}
use Rattle.letter_post.specs.declared.stamp.Stamp.{Stamp}
use Rattle.letter_post.specs.Orders.{Order, order_of, stamp_in}
use Rattle.letter_post.specs.Orders as orders
use Rattle.letter_post.specs.Stamps.{lines_of, same_stamp}
use Rattle.object_steps.specs.Objects.{Progress}
use Rattle.pup_state.specs.declared.piece.Piece.{Piece}
use Rattle.node_core.specs.declared.piece.Held.{Held}
use Rattle.node_core.specs.declared.turn.Sender.{Sender}
use Rattle.node_core.specs.Gatherings.{tallied}
use Rattle.node_core.specs.Nodes.{Body, NodeState, Passing, body_heard, body_ran, body_ran_at, body_ran_by, compared, contributed_to, is_new, node_heard, node_heard_as, node_heard_by, node_packed, node_packed_by, node_ran, node_ran_by, obeyed, obeyed_by, out_of, outcome_of, pack_sends, parcel_heard, partial_heard, partial_sent, passed, passed_one, piece_kept, piece_of, quietly, sender_of, sent_again, share_heard, stands, to_slot, total_heard, total_sent, turn_of, unmoved, verdict_sent, with_tallied}
use Rattle.node_core.specs.Rosters.{Roster, count_of, number_in, seat_of, sharers_of}
use Rattle.node_core.specs.Turns.{begins, turned}
use Rattle.conductor_core.specs.Tells.{is_to, mail_to}
use Rattle.world_core.proofs.Lists.{all_joined}

abbrev pub NoOrder : Sent → Type 0
NoOrder sent = order_of sent.letter ≡ None

abbrev pub NoOrders : List Sent → Type 0
NoOrders out = AllByRecursion NoOrder out

-- so what comes of it to a slot is mail
pub all_mail : (slot : SlotId) (out : List Sent) → NoOrders out → AllByRecursion (λ letter. order_of letter ≡ None) (mail_to slot out)
all_mail slot [] none = tt
all_mail slot (sent ∷ more) none = by (is_to slot sent.to) (all_mail slot more none.1)
  where
    by : (b : Bool) → AllByRecursion (λ letter. order_of letter ≡ None) (mail_to slot more) → AllByRecursion (λ letter. order_of letter ≡ None) (cond b (sent.letter ∷ mail_to slot more) (mail_to slot more))
    by true rest = (none.0, rest)
    by false rest = rest

-- ---- a run

partial_none : (s : Sender) (r : ReductionId) (total : Option ℤ) → NoOrders (partial_sent s r total)
partial_none s r None = tt
partial_none s r (Some value) = (refl, tt)

contributed_none : (roster : Roster) (s : Sender) (r : ReductionId) (value : ℤ) (on : Passing) (x : Option Reduction) → NoOrders on.out → NoOrders (contributed_to roster s r value on x).out
contributed_none roster s r value on None none = none
contributed_none roster s r value on (Some x) none = by (x.owner == s.array)
  where
    by : (b : Bool) → NoOrders (cond b (with_tallied s r on (tallied x.how (count_of roster x.owner) s.rank r s.iteration value on.gatherings)) on).out
    by true =
        let total : Option ℤ = (tallied x.how (count_of roster x.owner) s.rank r s.iteration value on.gatherings).total in
        all_joined NoOrder on.out (partial_sent s r total) none (partial_none s r total)
    by false = none

passed_one_none : (p : Plan) (place : List ℕ) (roster : Roster) (s : Sender) (m : Outgoing) (on : Passing) → NoOrders on.out → NoOrders (passed_one p place roster s m on).out
passed_one_none p place roster s (outgoing.Parcel entry to payload) on none = all_joined NoOrder on.out _ none (refl, tt)
passed_one_none p place roster s (outgoing.Contribution r value) on none = contributed_none roster s r value on (reduction_of p r.0) none

passed_none : (p : Plan) (place : List ℕ) (roster : Roster) (s : Sender) (all : List Outgoing) (on : Passing) → NoOrders on.out → NoOrders (passed p place roster s all on).out
passed_none p place roster s [] on none = none
passed_none p place roster s (m ∷ more) on none = passed_none p place roster s more (passed_one p place roster s m on) (passed_one_none p place roster s m on none)

turn_none : (e : ElementId) (before : Bool) (spot : Option Spot) (out : List Sent) → NoOrders out → NoOrders (out_of (turn_of e before spot out))
turn_none e true None out none = tt
turn_none e false None out none = tt
turn_none e before (Some spot) out none = none

module _ (p : Plan) (lines : List Flip) (place : List ℕ) (limit : ℕ) (slot : SlotId) (stamp : Stamp) (roster : Roster) (b : Body) where
  ran_by_none : (i : ℕ) (o : Option Progress) → NoOrders (out_of (body_ran_by p lines place limit slot stamp roster b i o).turn)
  ran_by_none i None = tt
  ran_by_none i (Some o) =
      let on : Passing = passed p place roster (sender_of p slot stamp roster i o) (turned p lines limit o).sent (record { gatherings = b.gatherings; out = [] }) in
      turn_none o.element (begins p.iterations o) (turned p lines limit o).spot on.out
      (passed_none p place roster (sender_of p slot stamp roster i o) (turned p lines limit o).sent (record { gatherings = b.gatherings; out = [] }) tt)

  ran_at_none : (seat : Option ℕ) → NoOrders (out_of (body_ran_at p lines place limit slot stamp roster b seat).turn)
  ran_at_none None = tt
  ran_at_none (Some i) = ran_by_none i (slice_get b.objects i)

  body_ran_none : (e : ℕ) → NoOrders (out_of (body_ran p lines place limit e slot stamp roster b).turn)
  unfolding body_ran
  body_ran_none e = by b.waits
    where
      by : (w : Bool) → NoOrders (out_of (cond w (stands b) (body_ran_at p lines place limit slot stamp roster b (seat_of roster e))).turn)
      by true = tt
      by false = ran_at_none (seat_of roster e)

pub ran_none : (p : Plan) (script : List Fault) (place : List ℕ) (limit e : ℕ) (n : NodeState) → NoOrders (outcome_of (node_ran p script place limit e n)).out
unfolding node_ran
ran_none p script place limit e n = by n.body
  where
    by : (o : Option Body) → NoOrders (outcome_of (node_ran_by p script place limit e n o)).out
    by None = tt
    by (Some b) = body_ran_none p (lines_of script n.last.stamp) place limit n.slot n.last.stamp n.roster b e

-- ---- a pack

compared_none : (p : Plan) (own : Stamp) (mine : Option Piece) (held : Option Held) → NoOrders (compared p own mine held)
compared_none p own None held = tt
compared_none p own (Some mine) None = tt
compared_none p own (Some mine) (Some held) = by (mine.iteration == held.piece.iteration)
  where
    by : (b : Bool) → NoOrders (cond b (verdict_sent p own mine held ∷ []) [])
    by true = (refl, tt)
    by false = tt

pack_none : (p : Plan) (slot : SlotId) (stamp : Stamp) (piece : Piece) (other : Option Held) → NoOrders (pack_sends p slot stamp piece other)
pack_none p slot stamp piece other = by (slot.replica == 1)
  where
    by : (b : Bool) → NoOrders (cond b (to_slot 0 slot.node (letters.Piece stamp piece) ∷ []) (compared p stamp (Some piece) other))
    by true = (refl, tt)
    by false = compared_none p stamp (Some piece) other

pub packed_none : (p : Plan) (script : List Fault) (k : ℕ) (n : NodeState) → NoOrders (node_packed p script k n).out
unfolding node_packed
packed_none p script k n = by n.body
  where
    by : (o : Option Body) → NoOrders (node_packed_by p script k n o).out
    by None = tt
    by (Some b) = pack_none p n.slot n.last.stamp (piece_of p k n.slot.node b.objects) b.other

-- ---- letters

totals_none : (replica : ℕ) (stamp : Stamp) (r : ReductionId) (k : ℕ) (value : ℤ) (nodes : List ℕ) → NoOrders (total_sent replica stamp r k nodes (Some value))
totals_none replica stamp r k value [] = tt
totals_none replica stamp r k value (j ∷ more) = (refl, totals_none replica stamp r k value more)

total_none : (replica : ℕ) (stamp : Stamp) (r : ReductionId) (k : ℕ) (nodes : List ℕ) (total : Option ℤ) → NoOrders (total_sent replica stamp r k nodes total)
total_none replica stamp r k nodes None = tt
total_none replica stamp r k nodes (Some value) = totals_none replica stamp r k value nodes

share_none : (replica : ℕ) (own : Stamp) (r : ReductionId) (k : ℕ) (value : ℤ) (x : Reduction) (sharers : List ℕ) (b : Body) (rank : Option ℕ) → NoOrders (share_heard replica own r k value x sharers b rank).out
share_none replica own r k value x sharers b None = tt
share_none replica own r k value x sharers b (Some rank) = total_none replica own r k sharers _

partial_heard_none : (roster : Roster) (replica : ℕ) (own : Stamp) (r : ReductionId) (k node : ℕ) (value : ℤ) (b : Body) (x : Option Reduction) → NoOrders (partial_heard roster replica own r k node value b x).out
partial_heard_none roster replica own r k node value b None = tt
partial_heard_none roster replica own r k node value b (Some x) = share_none replica own r k value x (sharers_of roster x.owner) b (number_in 0 (sharers_of roster x.owner) node)

body_heard_none : (p : Plan) (script : List Fault) (place : List ℕ) (slot : SlotId) (own : Stamp) (roster : Roster) (b : Body) (letter : Letter) → NoOrders (body_heard p script place slot own roster b letter).out
body_heard_none p script place slot own roster b (letters.Parcel stamp entry k to payload) = by (same_stamp stamp own)
  where
    by : (c : Bool) → NoOrders (cond c (parcel_heard roster k entry to payload b) (unmoved b)).out
    by true = tt
    by false = tt
body_heard_none p script place slot own roster b (letters.Partial stamp r k node value) = by (same_stamp stamp own)
  where
    by : (c : Bool) → NoOrders (cond c (partial_heard roster slot.replica own r k node value b (reduction_of p r.0)) (unmoved b)).out
    by true = partial_heard_none roster slot.replica own r k node value b (reduction_of p r.0)
    by false = tt
body_heard_none p script place slot own roster b (letters.Total stamp r k value) = by (same_stamp stamp own) (reduction_of p r.0)
  where
    by : (c : Bool) (x : Option Reduction) → NoOrders (cond c (total_heard p k r value b x) (unmoved b)).out
    by true None = tt
    by true (Some x) = tt
    by false x = tt
body_heard_none p script place slot own roster b (letters.Piece stamp piece) = by (piece.node == slot.node && is_new stamp piece b.other)
  where
    by : (c : Bool) → NoOrders (cond c (piece_kept p own b (record { stamp = stamp; piece = piece })) (unmoved b)).out
    by true = compared_none p own b.fresh (Some (record { stamp = stamp; piece = piece }))
    by false = tt
body_heard_none p script place slot own roster b (letters.VerdictOf first second node k verdict piece) = tt
body_heard_none p script place slot own roster b (letters.Lend k fresh) = tt
body_heard_none p script place slot own roster b (letters.Take stamp k live piece) = tt
body_heard_none p script place slot own roster b (letters.Restore stamp k live) = tt
body_heard_none p script place slot own roster b (letters.Commit stamp k live) = tt
body_heard_none p script place slot own roster b (letters.Resume stamp) = tt
body_heard_none p script place slot own roster b (letters.Died stamp dead line) = tt
body_heard_none p script place slot own roster b letters.Stop = tt

again_none : (slot : SlotId) (stamp : Stamp) (fresh : Option Piece) → NoOrders (sent_again slot stamp fresh)
again_none slot stamp None = tt
again_none slot stamp (Some piece) = by (slot.replica == 1)
  where
    by : (c : Bool) → NoOrders (cond c (to_slot 0 slot.node (letters.Piece stamp piece) ∷ []) [])
    by true = (refl, tt)
    by false = tt

obeyed_by_none : (p : Plan) (place : List ℕ) (slot : SlotId) (own : Stamp) (body : Option Body) (order : Order) → NoOrders (obeyed_by p place slot own body order).out
obeyed_by_none p place slot own body (orders.Restore stamp k live) = tt
obeyed_by_none p place slot own body (orders.Commit stamp k live) = tt
obeyed_by_none p place slot own body (orders.Take stamp k live piece) = tt
obeyed_by_none p place slot own None (orders.Resume stamp) = tt
obeyed_by_none p place slot own (Some b) (orders.Resume stamp) = again_none slot own b.fresh

obeyed_none : (p : Plan) (place : List ℕ) (slot : SlotId) (own : Stamp) (body : Option Body) (order : Order) → NoOrders (obeyed p place slot own body order).out
obeyed_none p place slot own body order = by ((stamp_in order).replica == slot.replica)
  where
    by : (c : Bool) → NoOrders (cond c (obeyed_by p place slot own body order) (quietly None)).out
    by true = obeyed_by_none p place slot own body order
    by false = tt

pub heard_none : (p : Plan) (script : List Fault) (place : List ℕ) (letter : Letter) (n : NodeState) → NoOrders (node_heard p script place letter n).out
unfolding node_heard
heard_none p script place letter n = by (order_of letter)
  where
    mail : (o : Option Body) → NoOrders (node_heard_by p script place letter n o).out
    mail None = tt
    mail (Some b) = body_heard_none p script place n.slot n.last.stamp n.roster b letter

    by : (o : Option Order) → NoOrders (node_heard_as p script place letter n o).out
    by None = mail n.body
    by (Some order) = obeyed_none p place n.slot n.last.stamp n.body order
