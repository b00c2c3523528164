-- What a slot owes, and what is done at it, outlives the order to take its piece as the base, and Resume.
use Rattle.std.proofs.Common.{◌≡◌, ℕ, ◌<◌, ◌≤◌, inl, inr, Bool, true, false, cond, List, [], ◌∷◌, refl, ap, sym, ◌∙◌, arith, subst, Some, None, IsSome}
use Rattle.std.specs.Prelude.{◌⊎◌, ◌==◌, ◌&&◌, nat_le}
use Rattle.std.specs.List.{AllByRecursion, filter}
use Rattle.std.proofs.lemmas.Bool.{eq-eqb, eqb-true, leb-true}
use Rattle.std.proofs.lemmas.Bool.Decides.{nat_tests}
use Rattle.chare_base.specs.declared.plan.Plan.{Plan}
use Rattle.chare_base.specs.declared.plan.Reduction.{Reduction}
use Rattle.chare_base.specs.declared.slots.LineSet.{LineSet}
use Rattle.chare_base.specs.Entries.{reduction_of}
use Rattle.fault_script.specs.declared.fault.Fault.{Fault}
use Rattle.letter_post.specs.declared.letter.Letter.{Letter}
use Rattle.letter_post.specs.declared.letter.Letter.TheVariants as letters
use Rattle.letter_post.specs.declared.letter.Sent.{Sent}
use Rattle.letter_post.specs.Orders.{order_at}
use Rattle.letter_post.specs.Stamps.{lines_of}
use Rattle.object_steps.specs.Objects.{Progress}
use Rattle.pup_state.specs.declared.piece.Piece.{Piece}
use Rattle.node_core.specs.Gatherings.{Gathering, gathering_of, is_of}
use Rattle.node_core.specs.Keeps.{Alive, IsGathering}
use Rattle.node_core.specs.Mail.{BodyDid, BodyOwes, Contributed, Given, PartialWasSent, ShareDid, TotalsWereSent, given_in, reduction_id}
use Rattle.node_core.specs.Nodes.{Body, NodeState, all_at_of, awakened, committed, committed_with, is_from, node_from, node_heard, quietly, resumed, sent_again, with_base, with_obeyed}
use Rattle.node_core.specs.Rosters.{rank_of, sharers_of}
use Rattle.node_core.proofs.Moving.{numbered_to}
use Rattle.world_core.proofs.Due.{first, second}

-- ---- what is gathered from an iteration on

is_of_from : (r k : ℕ) (g : Gathering) → is_of (reduction_id r) k g ≡ true → g.iteration ≡ k
is_of_from r k g h = eqb-true g.iteration k (second (g.reduction.0 == r) (g.iteration == k) h)

from_kept : (from r k : ℕ) (all : List Gathering) → from ≤ k → gathering_of (reduction_id r) k (filter (is_from from) all) ≡ gathering_of (reduction_id r) k all
from_kept from r k [] late = refl
from_kept from r k (g ∷ more) late = by (is_from from g) (is_of (reduction_id r) k g) refl refl (from_kept from r k more late)
  where
    by : (a b : Bool) → is_from from g ≡ a → is_of (reduction_id r) k g ≡ b → gathering_of (reduction_id r) k (filter (is_from from) more) ≡ gathering_of (reduction_id r) k more →
        gathering_of (reduction_id r) k (cond a (g ∷ filter (is_from from) more) (filter (is_from from) more)) ≡ cond b (Some g) (gathering_of (reduction_id r) k more)
    by true b ha hb rest = ap (λ c. cond c (Some g) (gathering_of (reduction_id r) k (filter (is_from from) more))) hb ∙ ap (cond b (Some g)) rest
    by false true ha hb rest = absurd (let at = is_of_from r k g hb in let q : nat_le from g.iteration ≡ true = grind (arith, nat_tests, at, late) in let z : true ≡ false = sym q ∙ ha in cc)
    by false false ha hb rest = rest

given_kept : (from r k rank : ℕ) (all : List Gathering) → from ≤ k → Given all r k rank → Given (filter (is_from from) all) r k rank
given_kept from r k rank all late h = subst (λ o. IsSome (given_in o rank)) (sym (from_kept from r k all late)) h

-- what is gathered is of one of the plan's reductions
gathered_of : (p : Plan) (P : Gathering → Type 0) (r k rank : ℕ) (all : List Gathering) → ((g : Gathering) → P g → (x : Reduction) × (reduction_of p g.reduction.0 ≡ Some x)) → AllByRecursion P all → Given all r k rank →
    (x : Reduction) × (reduction_of p r ≡ Some x)
gathered_of p P r k rank [] known each h = absurd (let q : false ≡ true = h in cc)
gathered_of p P r k rank (g ∷ more) known each h = by (is_of (reduction_id r) k g) refl h (gathered_of p P r k rank more known each.1)
  where
    by : (b : Bool) → is_of (reduction_id r) k g ≡ b → IsSome (given_in (cond b (Some g) (gathering_of (reduction_id r) k more)) rank) → (Given more r k rank → (x : Reduction) × (reduction_of p r ≡ Some x)) →
        (x : Reduction) × (reduction_of p r ≡ Some x)
    by true is q rest = let one = known g each.0 in let same : g.reduction.0 ≡ r = eqb-true g.reduction.0 r (first (g.reduction.0 == r) (g.iteration == k) is) in (one.0, ap (reduction_of p) (sym same) ∙ one.1)
    by false is q rest = rest q

-- ---- an order to take the fresh piece as the base

module _ (p : Plan) (script : List Fault) (place : List ℕ) (k : ℕ) (live : LineSet) (n : NodeState) (b : Body) (piece : Piece) where
  abbrev pub base_body : Body
  base_body = with_base k live b piece

  abbrev pub based : NodeState
  based = node_from n.slot (order_at n.last.stamp k) n.roster n.over (Some base_body)

  pub commit_is : n.last.stamp.replica ≡ n.slot.replica → n.body ≡ Some b → b.fresh ≡ Some piece → piece.iteration ≡ k → all_at_of k b.objects ≡ true →
      node_heard p script place (letters.Commit n.last.stamp k live) n ≡ record { node = based; out = [] }
  unfolding node_heard
  commit_is stamped alive fresh at all =
      ap (λ c. with_obeyed n (order_at n.last.stamp k) (cond c (quietly (committed k live n.body)) (quietly None))) (eq-eqb n.last.stamp.replica n.slot.replica stamped)
      ∙ ap (λ o. with_obeyed n (order_at n.last.stamp k) (quietly (committed k live o))) alive
      ∙ ap (λ o. with_obeyed n (order_at n.last.stamp k) (quietly (committed_with k live b o))) fresh
      ∙ ap (λ c. with_obeyed n (order_at n.last.stamp k) (quietly (cond (c && all_at_of k b.objects) (Some base_body) None))) (eq-eqb piece.iteration k at)
      ∙ ap (λ c. with_obeyed n (order_at n.last.stamp k) (quietly (cond (true && c) (Some base_body) None))) all

  -- what is over counts as sent
  module _ (log : List Sent) (shares : (r j : ℕ) (x : Reduction) → reduction_of p r ≡ Some x → j < k → PartialWasSent n.last.stamp r j n.slot.node log)
      (totals : (r j : ℕ) (x : Reduction) → reduction_of p r ≡ Some x → j < k → TotalsWereSent n.last.stamp r j (sharers_of n.roster x.owner) log) where
    share_based : (r j node : ℕ) → ShareDid p log n b n.last.stamp r j node → ShareDid p log based base_body n.last.stamp r j node
    share_based r j node did x rank is number = by (nat_le k j) refl (did x rank is number)
      where
        by : (c : Bool) → nat_le k j ≡ c → Given b.totals r j rank ⊎ TotalsWereSent n.last.stamp r j (sharers_of n.roster x.owner) log → Given base_body.totals r j rank ⊎ TotalsWereSent n.last.stamp r j (sharers_of n.roster x.owner) log
        by c t (inr sent) = inr sent
        by true t (inl given) = inl (given_kept k r j rank b.totals (leb-true k j t) given)
        by false t (inl given) = inr (totals r j x is (grind (arith, nat_tests, t)))

    pub commit_did : (letter : Letter) → BodyDid p log n b letter → BodyDid p log based base_body letter
    commit_did (letters.Parcel stamp entry j to payload) did = did
    commit_did (letters.Partial stamp r j node value) did = λ same. share_based r.0 j node (did same)
    commit_did (letters.Total stamp r j value) did = did
    commit_did (letters.Piece stamp other) did = did
    commit_did (letters.VerdictOf first second node j verdict other) did = tt
    commit_did (letters.Lend j fresh) did = tt
    commit_did (letters.Take stamp j lines other) did = tt
    commit_did (letters.Restore stamp j lines) did = tt
    commit_did (letters.Commit stamp j lines) did = tt
    commit_did (letters.Resume stamp) did = tt
    commit_did (letters.Died stamp slot line) did = tt
    commit_did letters.Stop did = tt

    pub commit_owes : (K : ℕ) → Alive p script place n b → BodyOwes p place K log n b → BodyOwes p place K log based base_body
    commit_owes K alive owes = record {
      objects = owes.objects;
      contributed = numbered_to (Contributed p n b log) (Contributed p based base_body log) 0 b.objects had owes.contributed;
      piece = λ one. tt;
      verdict = λ zero. tt;
      fresh = tt;
      other = owes.other;
    }
      where
        had : (i : ℕ) (o : Progress) → Contributed p n b log i o → Contributed p based base_body log i o
        had i o gave r s q j gives past = by (nat_le k j) refl (gave r s q j gives past)
          where
            by : (c : Bool) → nat_le k j ≡ c → Given b.gatherings r j (rank_of n.roster i) ⊎ PartialWasSent n.last.stamp r j n.slot.node log → Given base_body.gatherings r j (rank_of n.roster i) ⊎ PartialWasSent n.last.stamp r j n.slot.node log
            by c t (inr sent) = inr sent
            by true t (inl given) = inl (given_kept k r j (rank_of n.roster i) b.gatherings (leb-true k j t) given)
            by false t (inl given) =
                let x = gathered_of p (IsGathering p place (lines_of script n.last.stamp) n.slot.node) r j (rank_of n.roster i) b.gatherings (λ g is. (is.reduction, is.there)) alive.gatherings given in
                inr (shares r j x.0 x.1 (grind (arith, nat_tests, t)))

-- ---- Resume

module _ (p : Plan) (script : List Fault) (place : List ℕ) (n : NodeState) (b : Body) where
  abbrev pub goes_on : NodeState
  goes_on = node_from n.slot n.last n.roster n.over (Some (awakened b))

  pub resume_is : n.last.stamp.replica ≡ n.slot.replica → n.body ≡ Some b → b.fresh ≡ None → node_heard p script place (letters.Resume n.last.stamp) n ≡ record { node = goes_on; out = [] }
  unfolding node_heard
  resume_is stamped alive fresh =
      ap (λ c. with_obeyed n n.last (cond c (resumed n.slot n.last.stamp n.body) (quietly None))) (eq-eqb n.last.stamp.replica n.slot.replica stamped)
      ∙ ap (λ o. with_obeyed n n.last (resumed n.slot n.last.stamp o)) alive
      ∙ ap (λ o. with_obeyed n n.last (record { body = Some (awakened b); out = sent_again n.slot n.last.stamp o })) fresh

  pub resume_did : (log : List Sent) (letter : Letter) → BodyDid p log n b letter → BodyDid p log goes_on (awakened b) letter
  resume_did log (letters.Parcel stamp entry j to payload) did = did
  resume_did log (letters.Partial stamp r j node value) did = did
  resume_did log (letters.Total stamp r j value) did = did
  resume_did log (letters.Piece stamp other) did = did
  resume_did log (letters.VerdictOf first second node j verdict other) did = tt
  resume_did log (letters.Lend j fresh) did = tt
  resume_did log (letters.Take stamp j lines other) did = tt
  resume_did log (letters.Restore stamp j lines) did = tt
  resume_did log (letters.Commit stamp j lines) did = tt
  resume_did log (letters.Resume stamp) did = tt
  resume_did log (letters.Died stamp slot line) did = tt
  resume_did log letters.Stop did = tt

  pub resume_owes : (K : ℕ) (log : List Sent) → BodyOwes p place K log n b → BodyOwes p place K log goes_on (awakened b)
  resume_owes K log owes = record { objects = owes.objects; contributed = owes.contributed; piece = owes.piece; verdict = owes.verdict; fresh = owes.fresh; other = owes.other }
