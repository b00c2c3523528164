-- What was sent stays sent, and what is done stays done, as more is sent.
use Rattle.std.proofs.Common.{ℕ, inl, inr, List, ◌++◌}
use Rattle.std.specs.Prelude.{◌⊎◌}
use Rattle.chare_base.specs.declared.plan.Plan.{Plan}
use Rattle.letter_post.specs.declared.letter.Letter.{Letter}
use Rattle.letter_post.specs.declared.letter.Letter.TheVariants as letters
use Rattle.letter_post.specs.declared.letter.Sent.{Sent}
use Rattle.node_core.specs.Mail.{BodyDid, BodyOwes, Contributed, Did, Given, Owes, Paid, PartialWasSent}
use Rattle.node_core.specs.Nodes.{Body, NodeState, to_slot, verdict_sent}
use Rattle.node_core.specs.Rosters.{rank_of}
use Rattle.node_core.proofs.Lists.{all_to, if_some}
use Rattle.node_core.proofs.Moving.{numbered_to, paid_more, partial_more, shares_more}
use Rattle.node_core.proofs.Within.{in_left}

pub owes_more : (p : Plan) (place : List ℕ) (K : ℕ) (log out : List Sent) (n : NodeState) → Owes p place K log n → Owes p place K (log ++ out) n
owes_more p place K log out n = if_some (BodyOwes p place K log n) (BodyOwes p place K (log ++ out) n) n.body more
  where
    shared : (b : Body) (r k i : ℕ) → Given b.gatherings r k (rank_of n.roster i) ⊎ PartialWasSent n.last.stamp r k n.slot.node log → Given b.gatherings r k (rank_of n.roster i) ⊎ PartialWasSent n.last.stamp r k n.slot.node (log ++ out)
    shared b r k i (inl h) = inl h
    shared b r k i (inr h) = inr (partial_more n.last.stamp r k n.slot.node log out h)

    more : (b : Body) → BodyOwes p place K log n b → BodyOwes p place K (log ++ out) n b
    more b owes = record {
      objects = all_to (Paid p place n.last.stamp log) (Paid p place n.last.stamp (log ++ out)) b.objects (λ o paid. paid_more p place n.last.stamp log out o paid) owes.objects;
      contributed = numbered_to (Contributed p n b log) (Contributed p n b (log ++ out)) 0 b.objects (λ i o had r s q k gives past. shared b r k i (had r s q k gives past)) owes.contributed;
      piece = λ one. if_some _ _ b.fresh (λ piece. in_left (to_slot 0 n.slot.node (letters.Piece n.last.stamp piece)) log out) (owes.piece one);
      verdict = λ zero. if_some _ _ b.fresh (λ mine. if_some _ _ b.other (λ held there same. in_left (verdict_sent p n.last.stamp mine held) log out (there same))) (owes.verdict zero);
      fresh = owes.fresh;
      other = owes.other;
    }

body_did_more : (p : Plan) (log out : List Sent) (n : NodeState) (b : Body) (letter : Letter) → BodyDid p log n b letter → BodyDid p (log ++ out) n b letter
body_did_more p log out n b (letters.Parcel stamp entry k to payload) did = did
body_did_more p log out n b (letters.Partial stamp r k node value) did = λ same. shares_more p log out n b n.last.stamp r.0 k node (did same)
body_did_more p log out n b (letters.Total stamp r k value) did = did
body_did_more p log out n b (letters.Piece stamp piece) did = did
body_did_more p log out n b (letters.VerdictOf first second node k verdict piece) did = tt
body_did_more p log out n b (letters.Lend k fresh) did = tt
body_did_more p log out n b (letters.Take stamp k live piece) did = tt
body_did_more p log out n b (letters.Restore stamp k live) did = tt
body_did_more p log out n b (letters.Commit stamp k live) did = tt
body_did_more p log out n b (letters.Resume stamp) did = tt
body_did_more p log out n b (letters.Died stamp slot line) did = tt
body_did_more p log out n b letters.Stop did = tt

pub did_more : (p : Plan) (log out : List Sent) (n : NodeState) (letter : Letter) → Did p log letter n → Did p (log ++ out) letter n
did_more p log out n letter = if_some (λ (b : Body). BodyDid p log n b letter) (λ (b : Body). BodyDid p (log ++ out) n b letter) n.body (λ b did. body_did_more p log out n b letter did)
