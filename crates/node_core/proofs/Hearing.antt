-- What hearing a letter keeps of a node.
use Rattle.std.proofs.Common.{◌≡◌, ℕ, ℤ, Bool, true, false, cond, List, [], ◌∷◌, length, map, refl, ap, sym, ◌∙◌, subst, Option, Some, None}
use Rattle.std.specs.Prelude.{◌&&◌, ◌==◌, IfSome, is_none, slice_get, slice_set}
use Rattle.std.specs.List.{AllByRecursion}
use Rattle.std.proofs.lemmas.Bool.{eqb-true}
use Rattle.std.proofs.lemmas.Option.{same_Some}
use Rattle.chare_base.specs.declared.message.EntryId.{EntryId}
use Rattle.chare_base.specs.declared.message.Payload.{Payload}
use Rattle.chare_base.specs.declared.message.Port.TheVariants as ports
use Rattle.chare_base.specs.declared.message.ReductionId.{ReductionId}
use Rattle.chare_base.specs.declared.plan.ElementId.{ElementId}
use Rattle.chare_base.specs.declared.plan.Plan.{Plan}
use Rattle.chare_base.specs.declared.plan.Reduction.{Reduction}
use Rattle.chare_base.specs.Elements.{place_of}
use Rattle.chare_base.specs.Entries.{reduction_of}
use Rattle.chare_base.specs.Flip.{Flip}
use Rattle.chare_base.specs.Placing.{members}
use Rattle.chare_base.specs.Ports.{total_port}
use Rattle.chare_base.specs.Total.{joined_to}
use Rattle.chare_eval.specs.Inside.{message_to}
use Rattle.chare_eval.specs.Later.{LaterFlipsDecideInside}
use Rattle.chare_eval.specs.Laws.{EarlierFlipsDecide, TotalsAreTrue, contributions_from, first_member}
use Rattle.chare_eval.specs.Stage.{one_value, total_payload}
use Rattle.chare_eval.specs.Stage as stages
use Rattle.fault_script.specs.declared.fault.Fault.{Fault}
use Rattle.letter_post.specs.declared.letter.BoxId.TheVariants as boxes
use Rattle.letter_post.specs.declared.letter.Letter.{Letter}
use Rattle.letter_post.specs.declared.letter.Letter.TheVariants as letters
use Rattle.letter_post.specs.declared.stamp.Stamp.{Stamp}
use Rattle.letter_post.specs.Orders.{FollowsOrder, next_order, order_of}
use Rattle.letter_post.specs.Orders as orders
use Rattle.letter_post.specs.Stamps.{lines_of, same_stamp}
use Rattle.letter_post.specs.Truth.{Holds, IsPartial, IsPiece, IsTotal, Says}
use Rattle.object_steps.specs.Laws.{Follows, IsMessage, ObjectsFollow}
use Rattle.object_steps.specs.Objects.{Progress, key_of}
use Rattle.object_steps.specs.Totals.{NodesMakeWhole}
use Rattle.pup_state.specs.declared.piece.Piece.{Piece}
use Rattle.node_core.specs.declared.piece.Held.{Held}
use Rattle.node_core.specs.Gatherings.{Gathering, Tallied, is_of, tallied}
use Rattle.node_core.specs.Keeps.{Alive, AllAt, Gathers, HearsKeep, IsHeld, IsSharing, Keeps, KeepsOn, element_of, share_of}
use Rattle.node_core.specs.Loads.{LoadsBack}
use Rattle.node_core.specs.Nodes.{Body, Heard, NodeState, body_heard, is_new, node_heard, node_heard_as, node_heard_by, parcel_heard, partial_heard, piece_heard, piece_kept, share_heard, taken_at, taken_by, total_heard, total_sent, total_taken, unmoved, with_body, with_mail}
use Rattle.node_core.specs.Rosters.{Roster, node_count, nodes_with, number_in, roster_of, seat_of, sharers_of}
use Rattle.node_core.specs.Turns.{is_at, takes}
use Rattle.node_core.proofs.Gathering.{Counts, collected, new_of, tallied_counts}
use Rattle.node_core.proofs.Keeping.{BodyKeeps, body_on, compared_says, stays_on}
use Rattle.node_core.proofs.Lists.{all_mapped, all_set, get_mapped, got_at, map_same, map_set}
use Rattle.node_core.proofs.Obeying.{order_keeps}
use Rattle.node_core.proofs.Seats.{numbered, seated, sharers_are}
use Rattle.node_core.proofs.Totalling.{total_is}
use Rattle.node_core.proofs.Turning.{TakeStays, first, second, take_keeps, take_stays}

-- equal numbers, equal flips
pub stamps_lines : (script : List Fault) (a b : Stamp) → same_stamp a b ≡ true → lines_of script a ≡ lines_of script b
stamps_lines script a b h = ap (λ set. Rattle.fault_script.specs.Lines.flips_in script set) (eqb-true a.lines.0 b.lines.0 (second (a.replica == b.replica && a.epoch == b.epoch) (a.lines.0 == b.lines.0) h))

-- a gathering of shares, by what it is and by what it holds
module _ (p : Plan) (place : List ℕ) (lines : List Flip) (roster : Rattle.node_core.specs.Rosters.Roster) (r : ReductionId) (k : ℕ) (x : Reduction) (is : reduction_of p r.0 ≡ Some x) where
  same_reduction : (g : Gathering) → is_of r k g ≡ true → g.reduction.0 ≡ r.0
  same_reduction g of = eqb-true g.reduction.0 r.0 (first (g.reduction.0 == r.0) (g.iteration == k) of)

  same_iteration : (g : Gathering) → is_of r k g ≡ true → g.iteration ≡ k
  same_iteration g of = eqb-true g.iteration k (second (g.reduction.0 == r.0) (g.iteration == k) of)

  pub into_shares : (g : Gathering) → is_of r k g ≡ true → IsSharing p place lines roster g → Gathers x.how (share_of p place lines x r.0 k) (sharers_of roster x.owner) g.gathered
  into_shares g of h =
      let y_is : h.reduction ≡ x = same_Some h.reduction x (sym h.there ∙ ap (reduction_of p) (same_reduction g of) ∙ is) in
      let at_x = subst (λ (y : Reduction). Gathers y.how (share_of p place lines y g.reduction.0 g.iteration) (sharers_of roster y.owner) g.gathered) y_is h.gathers in
      let at_k = subst (λ n. Gathers x.how (share_of p place lines x g.reduction.0 n) (sharers_of roster x.owner) g.gathered) (same_iteration g of) at_x in
      subst (λ n. Gathers x.how (share_of p place lines x n k) (sharers_of roster x.owner) g.gathered) (same_reduction g of) at_k

  pub from_shares : (g : Gathering) → is_of r k g ≡ true → Gathers x.how (share_of p place lines x r.0 k) (sharers_of roster x.owner) g.gathered → IsSharing p place lines roster g
  from_shares g of h =
      let at_k = subst (λ n. Gathers x.how (share_of p place lines x r.0 n) (sharers_of roster x.owner) g.gathered) (sym (same_iteration g of)) h in
      record {
        reduction = x;
        there = ap (reduction_of p) (same_reduction g of) ∙ is;
        gathers = subst (λ n. Gathers x.how (share_of p place lines x n g.iteration) (sharers_of roster x.owner) g.gathered) (sym (same_reduction g of)) at_k;
      }

-- the totals that node 0 sends are true
totals_say : (p : Plan) (script : List Fault) (place : List ℕ) (replica : ℕ) (stamp : Stamp) (r : ReductionId) (k : ℕ) (value : ℤ) → IsTotal p (lines_of script stamp) r.0 k value → (nodes : List ℕ) →
    AllByRecursion (Says p script place) (total_sent replica stamp r k nodes (Some value))
totals_say p script place replica stamp r k value is [] = tt
totals_say p script place replica stamp r k value is (j ∷ more) = (is, totals_say p script place replica stamp r k value is more)

module _ (law : ObjectsFollow) (totals : TotalsAreTrue) (make : NodesMakeWhole) (p : Plan) (script : List Fault) (place : List ℕ) (n : NodeState) (keeps : Keeps p script place n) where
  abbrev lines : List Flip
  lines = lines_of script n.last.stamp

  abbrev j : ℕ
  j = n.slot.node

  module _ (b : Body) (alive : Alive p script place n b) where
    abbrev Kept : Heard → Type 0
    Kept h = BodyKeeps p script place (with_body n h.body) h.body h.out

    still : Kept (unmoved b)
    still = record {
      alive = record {
        members = alive.members;
        objects = alive.objects;
        gatherings = alive.gatherings;
        totals = alive.totals;
        base = alive.base;
        based = alive.based;
        fresh = alive.fresh;
        other = alive.other;
        packed = alive.packed;
      };
      says = tt;
    }

    -- messages move no object
    mail_keeps : (objects : List Progress) → map element_of objects ≡ map element_of b.objects → AllByRecursion (Follows p lines) objects → ((k : ℕ) → AllAt k b.objects → AllAt k objects) → Kept (with_mail b objects)
    mail_keeps objects elements follow at = record {
      alive = record {
        members = elements ∙ alive.members;
        objects = follow;
        gatherings = alive.gatherings;
        totals = alive.totals;
        base = alive.base;
        based = alive.based;
        fresh = alive.fresh;
        other = alive.other;
        packed = packed b.fresh alive.packed;
      };
      says = tt;
    }
      where
        packed : (fresh : Option Piece) → IfSome fresh (λ (piece : Piece). AllAt piece.iteration b.objects) → IfSome fresh (λ (piece : Piece). AllAt piece.iteration objects)
        packed None h = tt
        packed (Some piece) h = at piece.iteration h

    is_at_stays : (k : ℕ) (o t : Progress) → TakeStays o t → is_at k o ≡ true → is_at k t ≡ true
    is_at_stays k o t same h = ap (λ s. is_none s && t.done == k) same.step ∙ ap (λ d. is_none o.step && d == k) same.done ∙ h

    -- ---- a parcel

    element_there : (e i : ℕ) (o : Progress) → seat_of n.roster e ≡ Some i → slice_get b.objects i ≡ Some o → o.element.0 ≡ e
    element_there e i o seat there =
        let at : slice_get (members place j) i ≡ Some e = seated p place j e i (ap (λ q. seat_of q e) (sym keeps.roster.is) ∙ seat) in
        let mine : slice_get (members place j) i ≡ Some o.element.0 = ap (λ l. slice_get l i) (sym alive.members) ∙ get_mapped element_of b.objects i o there in
        same_Some o.element.0 e (sym mine ∙ at)

    parcel_keeps : (k : ℕ) (entry : EntryId) (to : ElementId) (payload : Payload) → IsMessage p lines to.0 (key_of k (ports.Entry entry)) payload → Kept (parcel_heard n.roster k entry to payload b)
    parcel_keeps k entry to payload is = by_seat (seat_of n.roster to.0) refl
      where
        taken : (i : ℕ) (o : Option Progress) → seat_of n.roster to.0 ≡ Some i → slice_get b.objects i ≡ o → Kept (with_mail b (taken_by k entry payload b.objects i o))
        taken i None seat there = mail_keeps b.objects refl alive.objects (λ k at. at)
        taken i (Some o) seat there =
            let key = key_of k (ports.Entry entry) in
            let same : TakeStays o (takes o key payload) = take_stays o key payload in
            let follows : Follows p lines o = got_at (Follows p lines) b.objects i o alive.objects there in
            let mine : IsMessage p lines o.element.0 key payload = subst (λ e. IsMessage p lines e key payload) (sym (element_there to.0 i o seat there)) is in
            mail_keeps (slice_set b.objects i (takes o key payload)) (map_set element_of b.objects i (takes o key payload) o there (ap (λ (x : ElementId). x.0) same.element))
            (all_set (Follows p lines) b.objects i (takes o key payload) alive.objects (take_keeps law p lines o key payload follows mine))
            (λ m at. all_set (λ q. is_at m q ≡ true) b.objects i (takes o key payload) at (is_at_stays m o (takes o key payload) same (got_at (λ q. is_at m q ≡ true) b.objects i o at there)))

        by_seat : (seat : Option ℕ) → seat_of n.roster to.0 ≡ seat → Kept (with_mail b (taken_at k entry payload b.objects seat))
        by_seat None seat = mail_keeps b.objects refl alive.objects (λ k at. at)
        by_seat (Some i) seat = taken i (slice_get b.objects i) seat refl

    -- ---- a total

    total_stays : (k : ℕ) (r : ReductionId) (v : ℤ) (array : ℕ) (o : Progress) → TakeStays o (total_taken p k r v array o)
    total_stays k r v array o = by ((place_of p o.element.0).array == array)
      where
        by : (c : Bool) → TakeStays o (cond c (takes o (key_of k (ports.Total r)) (one_value v)) o)
        by true = take_stays o (key_of k (ports.Total r)) (one_value v)
        by false = record { element = refl; place = refl; done = refl; step = refl; parts = refl }

    total_follows : (k : ℕ) (r : ReductionId) (v : ℤ) (x : Reduction) → reduction_of p r.0 ≡ Some x → IsTotal p lines r.0 k v → (o : Progress) → Follows p lines o → Follows p lines (total_taken p k r v x.owner o)
    total_follows k r v x there is o follows = by ((place_of p o.element.0).array == x.owner) refl
      where
        y_is : is.reduction ≡ x
        y_is = same_Some is.reduction x (sym is.there ∙ there)

        by : (c : Bool) → ((place_of p o.element.0).array == x.owner) ≡ c → Follows p lines (cond c (takes o (key_of k (ports.Total r)) (one_value v)) o)
        by false same = follows
        by true same =
            let array : (place_of p o.element.0).array ≡ x.owner = eqb-true (place_of p o.element.0).array x.owner same in
            let found : message_to p lines k (total_port r.0) o.element.0 ≡ Some (one_value v) =
            totals.total p lines k r.0 o.element.0 x there array ∙ ap total_payload (subst (λ (y : Reduction). joined_to y.how None (contributions_from p lines k r.0 (first_member p r.0) (stages.members p r.0)) ≡ Some v) y_is is.total) in
            take_keeps law p lines o (key_of k (ports.Total r)) (one_value v) follows found

    total_keeps : (k : ℕ) (r : ReductionId) (v : ℤ) → IsTotal p lines r.0 k v → (o : Option Reduction) → reduction_of p r.0 ≡ o → Kept (total_heard p k r v b o)
    total_keeps k r v is None there = still
    total_keeps k r v is (Some x) there =
        mail_keeps (map (total_taken p k r v x.owner) b.objects)
        (map_same element_of (total_taken p k r v x.owner) b.objects (λ o. ap (λ (e : ElementId). e.0) (total_stays k r v x.owner o).element))
        (all_mapped (Follows p lines) (Follows p lines) (total_taken p k r v x.owner) b.objects (total_follows k r v x there is) alive.objects)
        (λ m at. all_mapped (λ q. is_at m q ≡ true) (λ q. is_at m q ≡ true) (total_taken p k r v x.owner) b.objects (λ o h. is_at_stays m o (total_taken p k r v x.owner o) (total_stays k r v x.owner o) h) at)

    -- ---- a share

    share_keeps : (r : ReductionId) (k node : ℕ) (v : ℤ) → IsPartial p place lines r.0 k node v → (o : Option Reduction) → reduction_of p r.0 ≡ o → Kept (partial_heard n.roster n.slot.replica n.last.stamp r k node v b o)
    share_keeps r k node v is None there = still
    share_keeps r k node v is (Some x) there = by (number_in 0 (sharers_of n.roster x.owner) node) refl
      where
        sharers : List ℕ
        sharers = sharers_of n.roster x.owner

        own : share_of p place lines x r.0 k node ≡ Some v
        own = subst (λ (y : Reduction). share_of p place lines y r.0 k node ≡ Some v) (same_Some is.reduction x (sym is.there ∙ there)) is.total

        says : (rank : ℕ) → number_in 0 (sharers_of n.roster x.owner) node ≡ Some rank → (total : Option ℤ) →
            IfSome total (λ w. joined_to x.how None (collected (share_of p place lines x r.0 k) (sharers_of n.roster x.owner)) ≡ Some w) →
            AllByRecursion (Says p script place) (total_sent n.slot.replica n.last.stamp r k (sharers_of n.roster x.owner) total)
        says rank here None h = tt
        says rank here (Some w) h =
            let are = sharers_are p place j x.owner node rank (ap (λ q. number_in 0 (sharers_of q x.owner) node) (sym keeps.roster.is) ∙ here) in
            let same : sharers_of n.roster x.owner ≡ nodes_with p place x.owner (node_count place) = ap (λ q. sharers_of q x.owner) keeps.roster.is ∙ are.0 in
            let whole : joined_to x.how None (collected (share_of p place lines x r.0 k) (nodes_with p place x.owner (node_count place))) ≡ Some w =
            ap (λ l. joined_to x.how None (collected (share_of p place lines x r.0 k) l)) (sym same) ∙ h in
            totals_say p script place n.slot.replica n.last.stamp r k w (total_is make p place lines k r.0 x there keeps.roster.count w whole) (sharers_of n.roster x.owner)

        by : (o : Option ℕ) → number_in 0 (sharers_of n.roster x.owner) node ≡ o → Kept (share_heard n.slot.replica n.last.stamp r k v x (sharers_of n.roster x.owner) b o)
        by None here = still
        by (Some rank) here =
            let t : Tallied = tallied x.how (length (sharers_of n.roster x.owner)) rank r k v b.totals in
            let counts : Counts (IsSharing p place lines n.roster) x.how (share_of p place lines x r.0 k) (sharers_of n.roster x.owner) t =
            tallied_counts (IsSharing p place lines n.roster) r k x.how (share_of p place lines x r.0 k) (sharers_of n.roster x.owner)
            (into_shares p place lines n.roster r k x there) (from_shares p place lines n.roster r k x there)
            (length (sharers_of n.roster x.owner)) rank node v (λ below. refl) (numbered (sharers_of n.roster x.owner) node rank here) own
            (new_of x.how (length (sharers_of n.roster x.owner)) r k) b.totals alive.totals in
            record {
              alive = record {
                members = alive.members;
                objects = alive.objects;
                gatherings = alive.gatherings;
                totals = counts.gatherings;
                base = alive.base;
                based = alive.based;
                fresh = alive.fresh;
                other = alive.other;
                packed = alive.packed;
              };
              says = says rank here t.total counts.total;
            }

    -- ---- a piece

    piece_keeps : (stamp : Stamp) (piece : Piece) → IsPiece p place (lines_of script stamp) piece → piece.node ≡ j → Kept (piece_heard p n.last.stamp j stamp piece b)
    piece_keeps stamp piece is node = by (piece.node == j && is_new stamp piece b.other)
      where
        by : (c : Bool) → Kept (cond c (piece_kept p n.last.stamp b (record { stamp = stamp; piece = piece })) (unmoved b))
        by false = still
        by true =
            let held : Held = record { stamp = stamp; piece = piece } in
            let its : IsHeld p script place j held = record { is = record { node = node; is = is } } in
            record {
              alive = record {
                members = alive.members;
                objects = alive.objects;
                gatherings = alive.gatherings;
                totals = alive.totals;
                base = alive.base;
                based = alive.based;
                fresh = alive.fresh;
                other = its;
                packed = alive.packed;
              };
              says = compared_says p script place n b.fresh (Some held) alive.fresh its;
            }

    -- ---- any letter

    stamped_by : (stamp : Stamp) (h : Heard) → ((same_stamp stamp n.last.stamp ≡ true) → Kept h) → Kept (cond (same_stamp stamp n.last.stamp) h (unmoved b))
    stamped_by stamp h then_keeps = by (same_stamp stamp n.last.stamp) refl
      where
        by : (c : Bool) → same_stamp stamp n.last.stamp ≡ c → Kept (cond c h (unmoved b))
        by true same = then_keeps same
        by false same = still

    heard_keeps : (letter : Letter) → Holds p script place (boxes.Slot n.slot) letter → Kept (body_heard p script place n.slot n.last.stamp n.roster b letter)
    heard_keeps (letters.Parcel stamp entry k to payload) holds =
        stamped_by stamp (parcel_heard n.roster k entry to payload b)
        (λ same. parcel_keeps k entry to payload (subst (λ l. IsMessage p l to.0 (key_of k (ports.Entry entry)) payload) (stamps_lines script stamp n.last.stamp same) holds.1))
    heard_keeps (letters.Partial stamp r k node value) holds =
        stamped_by stamp (partial_heard n.roster n.slot.replica n.last.stamp r k node value b (reduction_of p r.0))
        (λ same. share_keeps r k node value (subst (λ l. IsPartial p place l r.0 k node value) (stamps_lines script stamp n.last.stamp same) holds) (reduction_of p r.0) refl)
    heard_keeps (letters.Total stamp r k value) holds =
        stamped_by stamp (total_heard p k r value b (reduction_of p r.0))
        (λ same. total_keeps k r value (subst (λ l. IsTotal p l r.0 k value) (stamps_lines script stamp n.last.stamp same) holds) (reduction_of p r.0) refl)
    heard_keeps (letters.Piece stamp piece) holds = piece_keeps stamp piece holds.0 holds.1
    heard_keeps (letters.VerdictOf first_stamp second_stamp node k verdict piece) holds = still
    heard_keeps (letters.Lend k fresh) holds = still
    heard_keeps (letters.Take stamp k live piece) holds = still
    heard_keeps (letters.Restore stamp k live) holds = still
    heard_keeps (letters.Commit stamp k live) holds = still
    heard_keeps (letters.Resume stamp) holds = still
    heard_keeps (letters.Died stamp slot line) holds = still
    heard_keeps letters.Stop holds = still

pub hears_keep : ObjectsFollow → TotalsAreTrue → NodesMakeWhole → EarlierFlipsDecide → LaterFlipsDecideInside → LoadsBack → HearsKeep
unfolding node_heard
hears_keep law totals make earlier inside back p script place letter n keeps = by letter
  where
    mailed : (mail : Letter) → Holds p script place (boxes.Slot n.slot) mail → KeepsOn p script place n n.last (node_heard_by p script place mail n n.body)
    mailed mail holds = live n.body keeps.body
      where
        live : (body : Option Body) → IfSome body (Alive p script place n) → KeepsOn p script place n n.last (node_heard_by p script place mail n body)
        live None alive = stays_on p script place n keeps
        live (Some b) alive =
            let h : Heard = body_heard p script place n.slot n.last.stamp n.roster b mail in
            body_on p script place n h.body h.out keeps (heard_keeps law totals make p script place n keeps b alive mail holds)

    by : (x : Letter) → Holds p script place (boxes.Slot n.slot) x → FollowsOrder p script n.last x → KeepsOn p script place n (next_order n.last x) (node_heard_as p script place x n (order_of x))
    by (letters.Parcel stamp entry k to payload) holds follows = mailed (letters.Parcel stamp entry k to payload) holds
    by (letters.Partial stamp r k node value) holds follows = mailed (letters.Partial stamp r k node value) holds
    by (letters.Total stamp r k value) holds follows = mailed (letters.Total stamp r k value) holds
    by (letters.Piece stamp piece) holds follows = mailed (letters.Piece stamp piece) holds
    by (letters.VerdictOf one two node k verdict piece) holds follows = mailed (letters.VerdictOf one two node k verdict piece) holds
    by (letters.Lend k fresh) holds follows = mailed (letters.Lend k fresh) holds
    by (letters.Died stamp slot line) holds follows = mailed (letters.Died stamp slot line) holds
    by letters.Stop holds follows = mailed letters.Stop holds
    by (letters.Restore stamp k live) holds follows = order_keeps law earlier inside back p script place n keeps (orders.Restore stamp k live) follows tt
    by (letters.Commit stamp k live) holds follows = order_keeps law earlier inside back p script place n keeps (orders.Commit stamp k live) follows tt
    by (letters.Resume stamp) holds follows = order_keeps law earlier inside back p script place n keeps (orders.Resume stamp) follows tt
    by (letters.Take stamp k live piece) holds follows =
        order_keeps law earlier inside back p script place n keeps (orders.Take stamp k live piece) follows (record { node = holds.1; is = holds.0 })
