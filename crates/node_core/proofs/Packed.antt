-- What pieces do with letters, and the laws of hearing and packing.
use Rattle.std.proofs.Common.{◌≡◌, ℕ, ◌<◌, ◌≤◌, inl, inr, Bool, true, false, cond, List, [], ◌∷◌, ◌++◌, refl, ap, sym, ◌∙◌, arith, subst, Option, Some, None}
use Rattle.std.specs.Prelude.{◌⊎◌, ◌&&◌, ◌||◌, ◌==◌, IfSome, is_none, not, nat_lt}
use Rattle.std.specs.List.{AllByRecursion}
use Rattle.std.proofs.lemmas.Bool.{eqb-true, eq-eqb, ltb-true}
use Rattle.std.proofs.lemmas.Bool.Decides.{nat_tests}
use Rattle.chare_base.specs.declared.message.Port.TheVariants as ports
use Rattle.chare_base.specs.declared.plan.Plan.{Plan}
use Rattle.chare_base.specs.declared.plan.Reduction.{Reduction}
use Rattle.chare_base.specs.Elements.{place_of}
use Rattle.chare_base.specs.Entries.{reduction_of}
use Rattle.fault_script.specs.declared.fault.Fault.{Fault}
use Rattle.letter_post.specs.declared.letter.Letter.{Letter}
use Rattle.letter_post.specs.declared.letter.Letter.TheVariants as letters
use Rattle.letter_post.specs.declared.letter.Sent.{Sent}
use Rattle.letter_post.specs.declared.stamp.Stamp.{Stamp}
use Rattle.letter_post.specs.Orders.{Order, order_of}
use Rattle.letter_post.specs.Stamps.{same_stamp}
use Rattle.pup_state.specs.declared.piece.Piece.{Piece}
use Rattle.node_core.specs.declared.piece.Held.{Held}
use Rattle.node_core.specs.Keeps.{Alive, Keeps}
use Rattle.node_core.specs.Mail.{BodyDid, Did, Got, HearsMove, HeldSince, In, IsAt, IsSomeAs, Moves, PacksMove, SentIsAt}
use Rattle.node_core.specs.Nodes.{Body, Heard, NodeState, body_heard, body_packed, compared, is_new, node_heard, node_heard_as, node_heard_by, node_packed, pack_sends, parcel_heard, partial_heard, piece_heard, piece_kept, piece_of, share_heard, taken_at, to_slot, total_heard, total_taken, unmoved, verdict_sent, with_body, with_fresh, with_other}
use Rattle.node_core.specs.Rosters.{number_in, seat_of, sharers_of}
use Rattle.node_core.proofs.Heard.{mail_moves, mailed_in, mails_mapped, mails_taken, paid_log, parcel_done, share_done, share_moves, shared_log, total_done}
use Rattle.node_core.proofs.Lists.{if_some}
use Rattle.node_core.proofs.Moving.{BodyMoves, node_moves, shares_more, silent_moves, still_moves}
use Rattle.node_core.proofs.Within.{in_left, in_right}
use Rattle.std.proofs.lemmas.Option.{same_Some}

-- the comparison of two pieces of one iteration is sent
compared_there : (p : Plan) (own : Stamp) (mine : Piece) (held : Held) (log : List Sent) → mine.iteration ≡ held.piece.iteration → In (verdict_sent p own mine held) (log ++ compared p own (Some mine) (Some held))
compared_there p own mine held log same =
    subst (λ b. In (verdict_sent p own mine held) (log ++ cond b (verdict_sent p own mine held ∷ []) [])) (sym (eq-eqb mine.iteration held.piece.iteration same))
    (in_right (verdict_sent p own mine held) log (verdict_sent p own mine held ∷ []) (inl refl))

compared_at : (K : ℕ) (p : Plan) (own : Stamp) (fresh : Option Piece) (other : Option Held) → IfSome fresh (λ (mine : Piece). mine.iteration ≡ K) → AllByRecursion (SentIsAt K) (compared p own fresh other)
compared_at K p own None other h = tt
compared_at K p own (Some mine) None h = tt
compared_at K p own (Some mine) (Some held) h = by (mine.iteration == held.piece.iteration)
  where
    by : (b : Bool) → AllByRecursion (SentIsAt K) (cond b (verdict_sent p own mine held ∷ []) [])
    by true = (h, tt)
    by false = tt

not_false : (b : Bool) → not b ≡ false → b ≡ true
not_false true h = refl
not_false false h = absurd (let q : true ≡ false = h in cc)

or_none : (a b : Bool) → (a || b) ≡ false → (a ≡ false) × (b ≡ false)
or_none true b h = absurd (let q : true ≡ false = h in cc)
or_none false b h = (refl, h)

or_left : (a b : Bool) → (a || b) ≡ true → b ≡ false → a ≡ true
or_left true b h none = refl
or_left false b h none = absurd (let q : true ≡ false = sym h ∙ none in cc)

module _ (p : Plan) (script : List Fault) (place : List ℕ) (K : ℕ) (n : NodeState) (keeps : Keeps p script place n) (b : Body) (alive : Alive p script place n b) where
  -- ---- a buddy's piece

  module _ (stamp : Stamp) (piece : Piece) (is : piece.iteration ≡ K) where
    abbrev held : Held
    held = record { stamp = stamp; piece = piece }

    -- what was held since is held since, by a newer one of the same iteration or one of a later iteration
    newer : (other : Option Held) → is_new stamp piece other ≡ true → IfSome other (λ (h : Held). h.piece.iteration ≤ K) → (s : Stamp) (q : Piece) → IsSomeAs other (HeldSince s q) → HeldSince s q held
    newer None new at s q h = absurd h
    newer (Some old) new at s q h = by (nat_lt old.piece.iteration piece.iteration) refl h
      where
        by : (c : Bool) → nat_lt old.piece.iteration piece.iteration ≡ c → HeldSince s q old → HeldSince s q held
        by c t (inl earlier) = inl (omega (arith, earlier, at, is))
        by true t (inr had) = inl (let less : old.piece.iteration < piece.iteration = ltb-true old.piece.iteration piece.iteration t in let same = had.iteration in omega (arith, less, same))
        by false t (inr had) =
            let same : old.piece.iteration ≡ piece.iteration = grind (arith, nat_tests, t, at, is) in
            let equal : not (old.piece.iteration == piece.iteration) ≡ false = ap not (eq-eqb old.piece.iteration piece.iteration same) in
            let later : old.stamp.epoch < stamp.epoch = ltb-true old.stamp.epoch stamp.epoch (or_left (nat_lt old.stamp.epoch stamp.epoch) (not (old.piece.iteration == piece.iteration)) new equal) in
            let before = had.epoch in
            inr (record { iteration = sym same ∙ had.iteration; epoch = omega (arith, later, before) })

    piece_moves : is_new stamp piece b.other ≡ true → BodyMoves p place K n b (with_other b held) (compared p n.last.stamp b.fresh (Some held))
    piece_moves new = record {
      got = λ k port C all. all;
      shares = λ log r k node did. shares_more p log (compared p n.last.stamp b.fresh (Some held)) n b n.last.stamp r k node did;
      held = λ log owes s q h. newer b.other new owes.other s q h;
      owes = λ log owes. record {
        objects = paid_log p script place K n keeps b alive log (compared p n.last.stamp b.fresh (Some held)) owes.objects;
        contributed = shared_log p script place K n keeps b alive log (compared p n.last.stamp b.fresh (Some held)) (with_other b held) refl owes.contributed;
        piece = λ one. if_some _ _ b.fresh (λ q. in_left (to_slot 0 n.slot.node (letters.Piece n.last.stamp q)) log (compared p n.last.stamp b.fresh (Some held))) (owes.piece one);
        verdict = λ zero. verdict b.fresh log;
        fresh = owes.fresh;
        other = omega (arith, is);
      };
      pieces = λ log owes. compared_at K p n.last.stamp b.fresh (Some held) owes.fresh;
    }
      where
        verdict : (fresh : Option Piece) (log : List Sent) →
            IfSome fresh (λ (mine : Piece). mine.iteration ≡ held.piece.iteration → In (verdict_sent p n.last.stamp mine held) (log ++ compared p n.last.stamp fresh (Some held)))
        verdict None log = tt
        verdict (Some mine) log = λ same. compared_there p n.last.stamp mine held log same

    -- a piece that isn't kept was held already
    held_already : (other : Option Held) → is_new stamp piece other ≡ false → IsSomeAs other (HeldSince stamp piece)
    held_already None new = let q : true ≡ false = new in absurd cc
    held_already (Some old) new =
        let parts = or_none (nat_lt old.stamp.epoch stamp.epoch) (not (old.piece.iteration == piece.iteration)) new in
        let late : stamp.epoch ≤ old.stamp.epoch = let l = parts.0 in grind (arith, nat_tests, l) in
        inr (record { iteration = eqb-true old.piece.iteration piece.iteration (not_false (old.piece.iteration == piece.iteration) parts.1); epoch = late })

    own_held : HeldSince stamp piece held
    own_held = inr (record { iteration = refl; epoch = omega arith })

    -- hearing it, whether it is kept or not
    record PieceHeard (h : Heard) : Type 1 where
      moves : BodyMoves p place K n b h.body h.out
      done : piece.node ≡ n.slot.node → IsSomeAs h.body.other (HeldSince stamp piece)

    piece_heard_on : PieceHeard (piece_heard p n.last.stamp n.slot.node stamp piece b)
    piece_heard_on = by (piece.node == n.slot.node) (is_new stamp piece b.other) refl refl
      where
        by : (c d : Bool) → (piece.node == n.slot.node) ≡ c → is_new stamp piece b.other ≡ d → PieceHeard (cond (c && d) (piece_kept p n.last.stamp b held) (unmoved b))
        by true true hc hd = record { moves = piece_moves hd; done = λ own. own_held }
        by true false hc hd = record { moves = still_moves p place K n b; done = λ own. held_already b.other hd }
        by false d hc hd = record { moves = still_moves p place K n b; done = λ own. absurd (let q : true ≡ false = sym (eq-eqb piece.node n.slot.node own) ∙ hc in cc) }

  -- ---- a pack

  abbrev mine_now : Piece
  mine_now = piece_of p K n.slot.node b.objects

  pack_moves : BodyMoves p place K n b (with_fresh b mine_now) (pack_sends p n.slot n.last.stamp mine_now b.other)
  pack_moves = record {
    got = λ k port C all. all;
    shares = λ log r k node did. shares_more p log (pack_sends p n.slot n.last.stamp mine_now b.other) n b n.last.stamp r k node did;
    held = λ log owes stamp piece h. h;
    owes = λ log owes. record {
      objects = paid_log p script place K n keeps b alive log (pack_sends p n.slot n.last.stamp mine_now b.other) owes.objects;
      contributed = shared_log p script place K n keeps b alive log (pack_sends p n.slot n.last.stamp mine_now b.other) (with_fresh b mine_now) refl owes.contributed;
      piece = λ one. sent_piece (n.slot.replica == 1) refl log one;
      verdict = λ zero. verdict (n.slot.replica == 1) refl log zero b.other;
      fresh = refl;
      other = owes.other;
    };
    pieces = λ log owes. at (n.slot.replica == 1);
  }
    where
      sent_piece : (c : Bool) → (n.slot.replica == 1) ≡ c → (log : List Sent) → n.slot.replica ≡ 1 →
          In (to_slot 0 n.slot.node (letters.Piece n.last.stamp mine_now)) (log ++ cond c (to_slot 0 n.slot.node (letters.Piece n.last.stamp mine_now) ∷ []) (compared p n.last.stamp (Some mine_now) b.other))
      sent_piece true h log one = in_right (to_slot 0 n.slot.node (letters.Piece n.last.stamp mine_now)) log (to_slot 0 n.slot.node (letters.Piece n.last.stamp mine_now) ∷ []) (inl refl)
      sent_piece false h log one = absurd (let q : true ≡ false = sym (eq-eqb n.slot.replica 1 one) ∙ h in cc)

      verdict : (c : Bool) → (n.slot.replica == 1) ≡ c → (log : List Sent) → (n.slot.replica ≡ 1 → ⊥) → (other : Option Held) →
          IfSome other (λ (held : Held). mine_now.iteration ≡ held.piece.iteration →
          In (verdict_sent p n.last.stamp mine_now held) (log ++ cond c (to_slot 0 n.slot.node (letters.Piece n.last.stamp mine_now) ∷ []) (compared p n.last.stamp (Some mine_now) other)))
      verdict c h log other_replica None = tt
      verdict true h log other_replica (Some its) = absurd (other_replica (eqb-true n.slot.replica 1 h))
      verdict false h log other_replica (Some its) = λ same. compared_there p n.last.stamp mine_now its log same

      at : (c : Bool) → AllByRecursion (SentIsAt K) (cond c (to_slot 0 n.slot.node (letters.Piece n.last.stamp mine_now) ∷ []) (compared p n.last.stamp (Some mine_now) b.other))
      at true = (refl, tt)
      at false = compared_at K p n.last.stamp (Some mine_now) b.other refl

  -- ---- any letter

  -- what an event of a live node does with a letter that it hears
  record BodyHeard (letter : Letter) (h : Heard) : Type 1 where
    moves : BodyMoves p place K n b h.body h.out
    done : (log : List Sent) → BodyDid p (log ++ h.out) (with_body n h.body) h.body letter

  abbrev stamp_as : Stamp → Bool
  stamp_as stamp = same_stamp stamp n.last.stamp

  heard_on : (letter : Letter) → IsAt K letter → BodyHeard letter (body_heard p script place n.slot n.last.stamp n.roster b letter)
  heard_on (letters.Parcel stamp entry k to payload) at = by (same_stamp stamp n.last.stamp) refl
    where
      by : (c : Bool) → same_stamp stamp n.last.stamp ≡ c → BodyHeard (letters.Parcel stamp entry k to payload) (cond c (parcel_heard n.roster k entry to payload b) (unmoved b))
      by true h = record {
        moves = mail_moves p script place K n keeps b alive (taken_at k entry payload b.objects (seat_of n.roster to.0)) (mails_taken p script place K n keeps b alive k entry payload (seat_of n.roster to.0));
        done = λ log same. parcel_done p script place K n keeps b alive k entry to payload;
      }
      by false h = record { moves = still_moves p place K n b; done = λ log same. absurd (let q : true ≡ false = sym same ∙ h in cc) }
  heard_on (letters.Total stamp r k value) at = by (same_stamp stamp n.last.stamp) (reduction_of p r.0) refl refl
    where
      by : (c : Bool) (o : Option Reduction) → same_stamp stamp n.last.stamp ≡ c → reduction_of p r.0 ≡ o → BodyHeard (letters.Total stamp r k value) (cond c (total_heard p k r value b o) (unmoved b))
      by false o h there = record { moves = still_moves p place K n b; done = λ log same. absurd (let q : true ≡ false = sym same ∙ h in cc) }
      by true None h there = record { moves = still_moves p place K n b; done = λ log same x is. absurd (let q : None ≡ Some x = sym there ∙ is in cc) }
      by true (Some y) h there = record {
        moves = mail_moves p script place K n keeps b alive _ (mails_mapped p script place K n keeps b alive b.objects (total_taken p k r value y.owner) (λ o. mailed_in p y.owner (Rattle.object_steps.specs.Objects.key_of k (ports.Total r)) (Rattle.chare_eval.specs.Stage.one_value value) o));
        done = λ log same x is.
            subst (λ (z : Reduction). AllByRecursion (λ o. (place_of p o.element.0).array ≡ z.owner → Got p k (ports.Total r) o) (Rattle.std.specs.Prelude.map (total_taken p k r value y.owner) b.objects)) (same_Some y x (sym there ∙ is))
            (total_done p script place K n keeps b alive k r value y);
      }
  heard_on (letters.Partial stamp r k node value) at = by (same_stamp stamp n.last.stamp) (reduction_of p r.0) refl refl
    where
      counted : (y : Reduction) → reduction_of p r.0 ≡ Some y → (o : Option ℕ) → number_in 0 (sharers_of n.roster y.owner) node ≡ o →
          BodyHeard (letters.Partial stamp r k node value) (share_heard n.slot.replica n.last.stamp r k value y (sharers_of n.roster y.owner) b o)
      counted y there None number = record {
        moves = still_moves p place K n b;
        done = λ log same x i is here.
            let same_x : y ≡ x = same_Some y x (sym there ∙ is) in
            absurd (let q : None ≡ Some i = sym number ∙ ap (λ (z : Reduction). number_in 0 (sharers_of n.roster z.owner) node) same_x ∙ here in cc);
      }
      counted y there (Some rank) number = record {
        moves = share_moves p script place K n keeps b alive r k node value y there rank number;
        done = λ log same. share_done p script place K n keeps b alive r k node value y there rank number log;
      }

      by : (c : Bool) (o : Option Reduction) → same_stamp stamp n.last.stamp ≡ c → reduction_of p r.0 ≡ o →
          BodyHeard (letters.Partial stamp r k node value) (cond c (partial_heard n.roster n.slot.replica n.last.stamp r k node value b o) (unmoved b))
      by false o h there = record { moves = still_moves p place K n b; done = λ log same. absurd (let q : true ≡ false = sym same ∙ h in cc) }
      by true None h there = record { moves = still_moves p place K n b; done = λ log same x i is here. absurd (let q : None ≡ Some x = sym there ∙ is in cc) }
      by true (Some y) h there = counted y there (number_in 0 (sharers_of n.roster y.owner) node) refl
  heard_on (letters.Piece stamp piece) at = let h = piece_heard_on stamp piece at in record { moves = h.moves; done = λ log. h.done }
  heard_on (letters.VerdictOf one_stamp other_stamp node k verdict piece) at = record { moves = still_moves p place K n b; done = λ log. tt }
  heard_on (letters.Lend k fresh) at = record { moves = still_moves p place K n b; done = λ log. tt }
  heard_on (letters.Take stamp k live piece) at = record { moves = still_moves p place K n b; done = λ log. tt }
  heard_on (letters.Restore stamp k live) at = record { moves = still_moves p place K n b; done = λ log. tt }
  heard_on (letters.Commit stamp k live) at = record { moves = still_moves p place K n b; done = λ log. tt }
  heard_on (letters.Resume stamp) at = record { moves = still_moves p place K n b; done = λ log. tt }
  heard_on (letters.Died stamp slot line) at = record { moves = still_moves p place K n b; done = λ log. tt }
  heard_on letters.Stop at = record { moves = still_moves p place K n b; done = λ log. tt }

pub hears_move : HearsMove
unfolding node_heard
hears_move p script place letter K n keeps holds at mail = let r = by (order_of letter) mail in record { moves = r.0; done = r.1 }
  where
    live : (body : Option Body) → n.body ≡ body → IfSome body (Alive p script place n) →
        (m : Moves p place K n (node_heard_by p script place letter n body)) × ((log : List Sent) → Did p (log ++ (node_heard_by p script place letter n body).out) letter (node_heard_by p script place letter n body).node)
    live None is alive = (silent_moves p place K n, λ log. subst (λ o. IfSome o (λ (c : Body). BodyDid p (log ++ []) n c letter)) (sym is) tt)
    live (Some b) is alive =
        let h = heard_on p script place K n keeps b alive letter at in
        let after : Heard = body_heard p script place n.slot n.last.stamp n.roster b letter in
        (node_moves p place K n b after.body after.out is h.moves, h.done)

    by : (o : Option Order) → is_none o ≡ true →
        (m : Moves p place K n (node_heard_as p script place letter n o)) × ((log : List Sent) → Did p (log ++ (node_heard_as p script place letter n o).out) letter (node_heard_as p script place letter n o).node)
    by None h = live n.body refl keeps.body
    by (Some order) h = absurd (let e : false ≡ true = h in cc)

pub packs_move : PacksMove
unfolding node_packed
packs_move p script place K n keeps = by n.body refl keeps.body
  where
    by : (body : Option Body) → n.body ≡ body → IfSome body (Alive p script place n) → Moves p place K n (Rattle.node_core.specs.Nodes.node_packed_by p script K n body)
    by None is alive = silent_moves p place K n
    by (Some b) is alive =
        let piece : Piece = piece_of p K n.slot.node b.objects in
        node_moves p place K n b (with_fresh b piece) (pack_sends p n.slot n.last.stamp piece b.other) is (pack_moves p script place K n keeps b alive)
