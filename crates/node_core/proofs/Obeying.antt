-- What obeying an order keeps of a node.
use Rattle.std.proofs.Common.{◌≡◌, ℕ, ◌+◌, ◌<◌, ◌≤◌, Bool, true, false, cond, List, [], ◌∷◌, length, map, refl, ap, sym, ◌∙◌, arith, subst, Option, Some, None}
use Rattle.std.specs.Prelude.{◌&&◌, ◌==◌, IfSome, suc}
use Rattle.std.specs.List.{AllByRecursion}
use Rattle.std.proofs.lemmas.Bool.{eq-eqb, eqb-true}
use Rattle.chare_base.specs.declared.cells.Cells.{Cells}
use Rattle.chare_base.specs.declared.plan.Plan.{Plan}
use Rattle.chare_base.specs.declared.slots.LineSet.{LineSet}
use Rattle.chare_base.specs.Elements.{elements}
use Rattle.chare_base.specs.Flip.{Flip}
use Rattle.chare_base.specs.Placing.{members, members_from}
use Rattle.chare_eval.specs.Fold.{fold}
use Rattle.chare_eval.specs.Later.{LaterFlipsDecideInside}
use Rattle.chare_eval.specs.Laws.{EarlierFlipsDecide, flips_before}
use Rattle.fault_script.specs.declared.fault.Fault.{Fault}
use Rattle.letter_post.specs.declared.letter.Letter.TheVariants as letters
use Rattle.letter_post.specs.declared.order.LastOrder.{LastOrder}
use Rattle.letter_post.specs.declared.stamp.Stamp.{Stamp}
use Rattle.letter_post.specs.Orders.{FollowsBy, GoesBack, Order, TakesBase, next_by, order_at, stamp_in}
use Rattle.letter_post.specs.Orders as orders
use Rattle.letter_post.specs.Stamps.{lines_of}
use Rattle.letter_post.specs.Truth.{Says}
use Rattle.object_steps.specs.Laws.{Follows, ObjectsFollow}
use Rattle.pup_state.specs.declared.piece.Piece.{Piece}
use Rattle.node_core.specs.declared.piece.Held.{Held}
use Rattle.node_core.specs.Keeps.{Alive, AllAt, IsHeld, IsPieceOf, Keeps, KeepsOn, OrdersRest, RestsAt, element_of}
use Rattle.node_core.specs.Loads.{LoadsBack, loaded, opened}
use Rattle.node_core.specs.Nodes.{Body, NodeState, Obeyed, all_at_of, awakened, begun_at, begun_by, begun_with, committed, committed_with, node_from, node_heard, obeyed, obeyed_by, quietly, restored, sent_again, taken_up, to_slot, with_base, with_obeyed}
use Rattle.node_core.proofs.Keeping.{all_at_each}
use Rattle.node_core.proofs.Rebased.{all_follow_over, gatherings_over, piece_over, same_before, totals_over}
use Rattle.node_core.proofs.Turning.{first, second}

-- ---- elements read out of a piece

opened_elements : (p : Plan) (all : List Cells) (k : ℕ) (es : List ℕ) → map element_of (opened p all k es) ≡ es
opened_elements p all k [] = refl
opened_elements p all k (e ∷ more) = ap (λ xs. e ∷ xs) (opened_elements p all k more)

opened_at : (p : Plan) (all : List Cells) (k : ℕ) (es : List ℕ) → AllAt k (opened p all k es)
opened_at p all k [] = tt
opened_at p all k (e ∷ more) = (eq-eqb k k refl, opened_at p all k more)

opened_follow : ObjectsFollow → (p : Plan) (lines : List Flip) (k : ℕ) (es : List ℕ) → k ≤ p.iterations → AllByRecursion (λ e. e < elements p) es → AllByRecursion (Follows p lines) (opened p (fold p lines k) k es)
opened_follow law p lines k [] within all = tt
opened_follow law p lines k (e ∷ more) within all = (law.resumes p lines k e all.0 within, opened_follow law p lines k more within all.1)

members_within : (count e : ℕ) (place : List ℕ) (j : ℕ) → e + length place ≤ count → AllByRecursion (λ x. x < count) (members_from e place j)
members_within count e [] j h = tt
members_within count e (node ∷ more) j h = by (node == j) (members_within count (suc e) more j (omega (arith, h)))
  where
    by : (b : Bool) → AllByRecursion (λ x. x < count) (members_from (suc e) more j) → AllByRecursion (λ x. x < count) (cond b (e ∷ members_from (suc e) more j) (members_from (suc e) more j))
    by true rest = (omega (arith, h), rest)
    by false rest = rest

-- Where a node begins with a true piece, its elements are the definition's.
begun_is : LoadsBack → (p : Plan) (place : List ℕ) (lines : List Flip) (j k : ℕ) (live : LineSet) (base : Piece) (other : Option Held) → length place ≡ elements p → IsPieceOf p place lines j base →
    (P : Body → Type 0) → (base.iteration ≡ k → P (begun_with base other live (opened p (fold p lines k) k (members place j)))) → IfSome (begun_at p place k live base other) P
begun_is back p place lines j k live base other count is P then_is = by (base.iteration == k) refl
  where
    read : base.iteration ≡ k → loaded p (members place base.node) base.iteration base.bytes ≡ Some (opened p (fold p lines k) k (members place j))
    read at =
        ap (loaded p (members place base.node) base.iteration) is.is.bytes ∙ back p place lines base.iteration base.node count is.is.within
        ∙ ap (λ n. Some (opened p (fold p lines n) n (members place base.node))) at ∙ ap (λ m. Some (opened p (fold p lines k) k (members place m))) is.node

    by : (c : Bool) → (base.iteration == k) ≡ c → IfSome (cond c (begun_by base other live (loaded p (members place base.node) base.iteration base.bytes)) None) P
    by false h = tt
    by true h =
        let at : base.iteration ≡ k = eqb-true base.iteration k h in
        subst (λ o. IfSome (begun_by base other live o) P) (sym (read at)) (then_is at)

module _ (law : ObjectsFollow) (earlier : EarlierFlipsDecide) (inside : LaterFlipsDecideInside) (back : LoadsBack) (p : Plan) (script : List Fault) (place : List ℕ) (n : NodeState) (keeps : Keeps p script place n) where
  abbrev j : ℕ
  j = n.slot.node

  abbrev own : List Flip
  own = lines_of script n.last.stamp

  -- a node under another last order
  abbrev under : LastOrder → Option Body → NodeState
  under last body = node_from n.slot last n.roster n.over body

  abbrev AliveUnder : LastOrder → Body → Type 0
  AliveUnder last b = Alive p script place (under last (Some b)) b

  abbrev lives : LastOrder → Option Body → Type 0
  lives last body = IfSome body (AliveUnder last)

  -- ---- at a piece

  begun_alive : (stamp : Stamp) (k : ℕ) (live : LineSet) (base : Piece) (other : Option Held) → IsPieceOf p place (lines_of script stamp) j base → IfSome other (IsHeld p script place j) → base.iteration ≡ k →
      AliveUnder (order_at stamp k) (begun_with base other live (opened p (fold p (lines_of script stamp) k) k (members place j)))
  begun_alive stamp k live base other is held at = record {
    members = opened_elements p (fold p (lines_of script stamp) k) k (members place j);
    objects = opened_follow law p (lines_of script stamp) k (members place j) (subst (λ n. n ≤ p.iterations) at is.is.within) (members_within (elements p) 0 place j (let count = keeps.roster.count in omega (arith, count)));
    gatherings = tt;
    totals = tt;
    base = is;
    based = at;
    fresh = tt;
    other = held;
    packed = tt;
  }

  begun_rests : (stamp : Stamp) (k : ℕ) (live : LineSet) (base : Piece) (other : Option Held) → base.iteration ≡ k → RestsAt k (begun_with base other live (opened p (fold p (lines_of script stamp) k) k (members place j)))
  begun_rests stamp k live base other at = record { waits = refl; fresh = refl; based = at; objects = opened_at p (fold p (lines_of script stamp) k) k (members place j) }

  -- ---- going back

  base_over : (stamp : Stamp) (k : ℕ) → GoesBack script n.last stamp k → (b : Body) → Alive p script place n b → IsPieceOf p place (lines_of script stamp) j b.base
  base_over stamp k follows b alive =
      let at : k ≡ b.base.iteration = follows.base ∙ sym alive.based in
      let flips : flips_before b.base.iteration (lines_of script stamp) ≡ flips_before b.base.iteration own = subst (λ m. flips_before m (lines_of script stamp) ≡ flips_before m own) at follows.flips in
      piece_over p place own (lines_of script stamp) j b.base (same_before earlier p own (lines_of script stamp) b.base.iteration flips) alive.base

  restore_keeps : (stamp : Stamp) (k : ℕ) (live : LineSet) → GoesBack script n.last stamp k → (body : Option Body) → IfSome body (Alive p script place n) → lives (order_at stamp k) (restored p place k live body)
  restore_keeps stamp k live follows None alive = tt
  restore_keeps stamp k live follows (Some b) alive =
      let is = base_over stamp k follows b alive in
      begun_is back p place (lines_of script stamp) j k live b.base b.other keeps.roster.count is (AliveUnder (order_at stamp k)) (begun_alive stamp k live b.base b.other is alive.other)

  restore_rests : (stamp : Stamp) (k : ℕ) (live : LineSet) → GoesBack script n.last stamp k → (body : Option Body) → IfSome body (Alive p script place n) → IfSome (restored p place k live body) (RestsAt k)
  restore_rests stamp k live follows None alive = tt
  restore_rests stamp k live follows (Some b) alive =
      begun_is back p place (lines_of script stamp) j k live b.base b.other keeps.roster.count (base_over stamp k follows b alive) (RestsAt k) (begun_rests stamp k live b.base b.other)

  -- ---- a piece that came

  took : (P : Body → Type 0) (k : ℕ) (live : LineSet) (piece : Piece) → IfSome (begun_at p place k live piece None) P → IfSome (taken_up p place j k live piece) P
  took P k live piece h = by (piece.node == j)
    where
      by : (c : Bool) → IfSome (cond c (begun_at p place k live piece None) None) P
      by true = h
      by false = tt

  take_keeps : (stamp : Stamp) (k : ℕ) (live : LineSet) (piece : Piece) → IsPieceOf p place (lines_of script stamp) j piece → lives (order_at stamp k) (taken_up p place j k live piece)
  take_keeps stamp k live piece is =
      took (AliveUnder (order_at stamp k)) k live piece
      (begun_is back p place (lines_of script stamp) j k live piece None keeps.roster.count is (AliveUnder (order_at stamp k)) (begun_alive stamp k live piece None is tt))

  take_rests : (stamp : Stamp) (k : ℕ) (live : LineSet) (piece : Piece) → IsPieceOf p place (lines_of script stamp) j piece → IfSome (taken_up p place j k live piece) (RestsAt k)
  take_rests stamp k live piece is =
      took (RestsAt k) k live piece (begun_is back p place (lines_of script stamp) j k live piece None keeps.roster.count is (RestsAt k) (begun_rests stamp k live piece None))

  -- ---- at the fresh piece

  commit_alive : (stamp : Stamp) (k : ℕ) (live : LineSet) → TakesBase p script n.last stamp k → (b : Body) (piece : Piece) → Alive p script place n b → IsPieceOf p place own j piece → piece.iteration ≡ k → all_at_of k b.objects ≡ true →
      AliveUnder (order_at stamp k) (with_base k live b piece)
  commit_alive stamp k live follows b piece alive is at rest = record {
    members = alive.members;
    objects = all_follow_over inside p own (lines_of script stamp) k follows.flips follows.states b.objects rest alive.objects;
    gatherings = gatherings_over inside p own (lines_of script stamp) k follows.flips follows.states place j b.gatherings alive.gatherings;
    totals = totals_over inside p own (lines_of script stamp) k follows.flips follows.states place n.roster b.totals alive.totals;
    base = piece_over p place own (lines_of script stamp) j piece (subst (λ m. fold p own m ≡ fold p (lines_of script stamp) m) (sym at) follows.states) is;
    based = at;
    fresh = tt;
    other = alive.other;
    packed = tt;
  }

  commit_keeps : (stamp : Stamp) (k : ℕ) (live : LineSet) → TakesBase p script n.last stamp k → (body : Option Body) → IfSome body (Alive p script place n) → lives (order_at stamp k) (committed k live body)
  commit_keeps stamp k live follows None alive = tt
  commit_keeps stamp k live follows (Some b) alive = with_fresh b.fresh alive.fresh
    where
      with_fresh : (fresh : Option Piece) → IfSome fresh (IsPieceOf p place own j) → lives (order_at stamp k) (committed_with k live b fresh)
      with_fresh None is = tt
      with_fresh (Some piece) is = by (piece.iteration == k && all_at_of k b.objects) refl
        where
          by : (c : Bool) → (piece.iteration == k && all_at_of k b.objects) ≡ c → lives (order_at stamp k) (cond c (Some (with_base k live b piece)) None)
          by false h = tt
          by true h =
              commit_alive stamp k live follows b piece alive is (eqb-true piece.iteration k (first (piece.iteration == k) (all_at_of k b.objects) h)) (second (piece.iteration == k) (all_at_of k b.objects) h)

  -- ---- going on

  resume_keeps : (b : Body) → Alive p script place n b → AliveUnder n.last (awakened b)
  resume_keeps b alive = record {
    members = alive.members;
    objects = alive.objects;
    gatherings = alive.gatherings;
    totals = alive.totals;
    base = alive.base;
    based = alive.based;
    fresh = alive.fresh;
    other = alive.other;
    packed = alive.packed;
  }

  again_says : (fresh : Option Piece) → IfSome fresh (IsPieceOf p place own j) → AllByRecursion (Says p script place) (sent_again n.slot n.last.stamp fresh)
  again_says None is = tt
  again_says (Some piece) is = by (n.slot.replica == 1)
    where
      by : (c : Bool) → AllByRecursion (Says p script place) (cond c (to_slot 0 n.slot.node (letters.Piece n.last.stamp piece) ∷ []) [])
      by true = ((is.is, is.node), tt)
      by false = tt

  -- ---- any order

  -- what an order leaves keeps, and what it sends is true
  abbrev Obeys : LastOrder → Obeyed → Type 0
  Obeys last o = lives last o.body × AllByRecursion (Says p script place) o.out

  -- a piece that came with an order is true
  abbrev Brings : Order → Type 0
  Brings (orders.Restore stamp k live) = Unit {0}
  Brings (orders.Commit stamp k live) = Unit {0}
  Brings (orders.Resume stamp) = Unit {0}
  Brings (orders.Take stamp k live piece) = IsPieceOf p place (lines_of script stamp) j piece

  obeys : (order : Order) (body : Option Body) → IfSome body (Alive p script place n) → FollowsBy p script n.last (Some order) → Brings order → Obeys (next_by n.last (Some order)) (obeyed_by p place n.slot n.last.stamp body order)
  obeys (orders.Restore stamp k live) body alive follows brings = (restore_keeps stamp k live follows body alive, tt)
  obeys (orders.Commit stamp k live) body alive follows brings = (commit_keeps stamp k live follows body alive, tt)
  obeys (orders.Take stamp k live piece) body alive follows brings = (take_keeps stamp k live piece brings, tt)
  obeys (orders.Resume stamp) None alive follows brings = (tt, tt)
  obeys (orders.Resume stamp) (Some b) alive follows brings = (resume_keeps b alive, again_says b.fresh alive.fresh)

  obeys_all : (order : Order) → FollowsBy p script n.last (Some order) → Brings order → Obeys (next_by n.last (Some order)) (obeyed p place n.slot n.last.stamp n.body order)
  obeys_all order follows brings = by ((stamp_in order).replica == n.slot.replica)
    where
      by : (c : Bool) → Obeys (next_by n.last (Some order)) (cond c (obeyed_by p place n.slot n.last.stamp n.body order) (quietly None))
      by true = obeys order n.body keeps.body follows brings
      by false = (tt, tt)

  stamped_next : (order : Order) → FollowsBy p script n.last (Some order) → (next_by n.last (Some order)).stamp.replica ≡ n.slot.replica
  stamped_next (orders.Restore stamp k live) follows = follows.replica ∙ keeps.stamped
  stamped_next (orders.Commit stamp k live) follows = follows.replica ∙ keeps.stamped
  stamped_next (orders.Resume stamp) follows = keeps.stamped
  stamped_next (orders.Take stamp k live piece) follows = follows ∙ keeps.stamped

  pub order_keeps : (order : Order) → FollowsBy p script n.last (Some order) → Brings order →
      KeepsOn p script place n (next_by n.last (Some order)) (with_obeyed n (next_by n.last (Some order)) (obeyed p place n.slot n.last.stamp n.body order))
  order_keeps order follows brings =
      let o : Obeyed = obeyed p place n.slot n.last.stamp n.body order in
      let all = obeys_all order follows brings in
      record {
        slot = refl;
        last = refl;
        roster = refl;
        keeps = record {
          stamped = stamped_next order follows;
          roster = record { count = keeps.roster.count; is = keeps.roster.is };
          body = alive o.body all.0;
        };
        says = all.1;
      }
    where
      alive : (body : Option Body) → lives (next_by n.last (Some order)) body → IfSome body (Alive p script place (under (next_by n.last (Some order)) body))
      alive None h = tt
      alive (Some b) h = h

-- ---- where orders leave a node

commit_rests : (k : ℕ) (live : LineSet) (body : Option Body) → IfSome (committed k live body) (RestsAt k)
commit_rests k live None = tt
commit_rests k live (Some b) = with_fresh b.fresh
  where
    with_fresh : (fresh : Option Piece) → IfSome (committed_with k live b fresh) (RestsAt k)
    with_fresh None = tt
    with_fresh (Some piece) = by (piece.iteration == k && all_at_of k b.objects) refl
      where
        by : (c : Bool) → (piece.iteration == k && all_at_of k b.objects) ≡ c → IfSome (cond c (Some (with_base k live b piece)) None) (RestsAt k)
        by false h = tt
        by true h = record {
          waits = refl;
          fresh = refl;
          based = eqb-true piece.iteration k (first (piece.iteration == k) (all_at_of k b.objects) h);
          objects = all_at_each k b.objects (second (piece.iteration == k) (all_at_of k b.objects) h);
        }

-- an order to the other replica leaves no node
own_order : (p : Plan) (place : List ℕ) (n : NodeState) (order : Order) (P : Body → Type 0) → IfSome (obeyed_by p place n.slot n.last.stamp n.body order).body P → IfSome (obeyed p place n.slot n.last.stamp n.body order).body P
own_order p place n order P h = by ((stamp_in order).replica == n.slot.replica)
  where
    by : (c : Bool) → IfSome (cond c (obeyed_by p place n.slot n.last.stamp n.body order) (quietly None)).body P
    by true = h
    by false = tt

pub orders_rest : ObjectsFollow → EarlierFlipsDecide → LaterFlipsDecideInside → LoadsBack → OrdersRest
unfolding node_heard
orders_rest law earlier inside back = record {
  restores = λ p script place n stamp k live keeps follows. own_order p place n (orders.Restore stamp k live) (RestsAt k) (restore_rests law earlier inside back p script place n keeps stamp k live follows n.body keeps.body);
  commits = λ p script place n stamp k live. own_order p place n (orders.Commit stamp k live) (RestsAt k) (commit_rests k live n.body);
  takes = λ p script place n stamp k live piece keeps holds. own_order p place n (orders.Take stamp k live piece) (RestsAt k) (take_rests law earlier inside back p script place n keeps stamp k live piece (record { node = holds.1; is = holds.0 }));
}
