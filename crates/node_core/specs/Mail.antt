-- Nothing that is sent is lost: what a letter asks of a node, and what a node owes.
use Rattle.std.specs.Prelude.{◌≡◌, ℕ, suc, ◌<◌, ◌≤◌, ◌⊎◌, ℤ, Bool, true, List, [], ◌∷◌, ◌++◌, slice_get, Option, Some, None, IsSome, IfSome}
use Rattle.std.specs.List.{AllByRecursion}
use Rattle.chare_base.specs.declared.message.Need.TheVariants as needs
use Rattle.chare_base.specs.declared.message.Payload.{Payload}
use Rattle.chare_base.specs.declared.message.Port.{Port}
use Rattle.chare_base.specs.declared.message.Port.TheVariants as ports
use Rattle.chare_base.specs.declared.message.ReductionId.{ReductionId}
use Rattle.chare_base.specs.declared.plan.Plan.{Plan}
use Rattle.chare_base.specs.declared.plan.Reduction.{Reduction}
use Rattle.chare_base.specs.Elements.{block_at, need_at, place_of}
use Rattle.chare_base.specs.Entries.{id_of, reduction_of, target_of}
use Rattle.chare_base.specs.Ports.{block_sends, entry_port, total_port}
use Rattle.chare_eval.specs.Inside.{is_done}
use Rattle.fault_script.specs.declared.fault.Fault.{Fault}
use Rattle.letter_post.specs.declared.letter.BoxId.TheVariants as boxes
use Rattle.letter_post.specs.declared.letter.Letter.{Letter}
use Rattle.letter_post.specs.declared.letter.Letter.TheVariants as letters
use Rattle.letter_post.specs.declared.letter.Sent.{Sent}
use Rattle.letter_post.specs.declared.stamp.Stamp.{Stamp}
use Rattle.letter_post.specs.Orders.{is_mail}
use Rattle.letter_post.specs.Stamps.{same_stamp}
use Rattle.letter_post.specs.Truth.{Holds}
use Rattle.object_steps.specs.Objects.{Progress, key_of}
use Rattle.object_steps.specs.Partial.{given_at}
use Rattle.pup_state.specs.declared.piece.Piece.{Piece}
use Rattle.ref_messages.specs.Queue.{message}
use Rattle.node_core.specs.declared.piece.Held.{Held}
use Rattle.node_core.specs.Gatherings.{Gathering, gathering_of}
use Rattle.node_core.specs.Keeps.{Keeps}
use Rattle.node_core.specs.Nodes.{Body, NodeState, Outcome, node_at, node_heard, node_packed, node_ran, node_turned, outcome_of, to_slot, verdict_sent}
use Rattle.node_core.specs.Rosters.{number_in, rank_of, sharers_of}

-- one of a list
abbrev pub In : {A : Type 0} → A → List A → Type 0
In x [] = ⊥
In x (y ∷ ys) = (x ≡ y) ⊎ In x ys

-- ---- one object

-- past part q of step s of an iteration, in which these parts of a step are done
abbrev pub PastIn : ℕ → ℕ → Option ℕ → List Bool → Type 0
PastIn s q None parts = ⊥
PastIn s q (Some t) parts = (s < t) ⊎ ((s ≡ t) × (is_done parts q ≡ true))

-- it is past a part of a step of iteration k
abbrev pub Past : ℕ → ℕ → ℕ → Progress → Type 0
Past k s q o = (k < o.done) ⊎ ((k ≡ o.done) × PastIn s q o.step o.parts)

-- a part that needs a message of this port is one that it is past
pub record Took (p : Plan) (k : ℕ) (port : Port) (o : Progress) : Type 0 where
  pub step : ℕ
  pub part : ℕ
  pub need : need_at p o.element.0 step part ≡ needs.Port port
  pub past : Past k step part o

-- it holds the message of a port, or took it, or the iteration is over
abbrev pub Got : Plan → ℕ → Port → Progress → Type 0
Got p k port o = IsSome (message o.mail (key_of k port)) ⊎ ((k < o.done) ⊎ Took p k port o)

-- part q of step s of an element sends an entry to another
pub record Sends (p : Plan) (x f s q e : ℕ) : Type 0 where
  pub some : 0 < block_sends (entry_port x) (block_at p f s q)
  pub target : target_of p x f ≡ Some (id_of e)

-- part q of step s of an element contributes to a reduction
pub record Contributes (p : Plan) (r f s q : ℕ) : Type 0 where
  pub some : 0 < block_sends (total_port r) (block_at p f s q)

-- ---- what was sent

abbrev pub reduction_id : ℕ → ReductionId
reduction_id r = record { 0 = r }

pub record ParcelWasSent (place : List ℕ) (stamp : Stamp) (x k e : ℕ) (log : List Sent) : Type 0 where
  pub payload : Payload
  pub there : In (to_slot stamp.replica (node_at place e) (letters.Parcel stamp (record { 0 = x }) k (id_of e) payload)) log

pub record PartialWasSent (stamp : Stamp) (r k j : ℕ) (log : List Sent) : Type 0 where
  pub value : ℤ
  pub there : In (to_slot stamp.replica 0 (letters.Partial stamp (reduction_id r) k j value)) log

pub record TotalWasSent (stamp : Stamp) (r k : ℕ) (log : List Sent) (j : ℕ) : Type 0 where
  pub value : ℤ
  pub there : In (to_slot stamp.replica j (letters.Total stamp (reduction_id r) k value)) log

abbrev pub TotalsWereSent : Stamp → ℕ → ℕ → List ℕ → List Sent → Type 0
TotalsWereSent stamp r k sharers log = AllByRecursion (TotalWasSent stamp r k log) sharers

-- ---- what a letter asks

abbrev pub given_in : Option Gathering → ℕ → Option ℤ
given_in None rank = None
given_in (Some g) rank = given_at g.gathered.given rank

-- a member's number is among those that are gathered
abbrev pub Given : List Gathering → ℕ → ℕ → ℕ → Type 0
Given all r k rank = IsSome (given_in (gathering_of (reduction_id r) k all) rank)

-- a piece of the same checkpoint is held, sent in the same epoch or a later one
pub record HeldAs (stamp : Stamp) (piece : Piece) (held : Held) : Type 0 where
  pub iteration : held.piece.iteration ≡ piece.iteration
  pub epoch : stamp.epoch ≤ held.stamp.epoch

-- a buddy's piece that came stays until a newer one comes, or one of a later checkpoint
abbrev pub HeldSince : Stamp → Piece → Held → Type 0
HeldSince stamp piece held = (piece.iteration < held.piece.iteration) ⊎ HeldAs stamp piece held

abbrev pub IsSomeAs : {A : Type 0} → Option A → (A → Type 0) → Type 0
IsSomeAs None P = ⊥
IsSomeAs (Some x) P = P x

-- A share is counted, or the totals were sent.
abbrev pub ShareDid : Plan → List Sent → NodeState → Body → Stamp → ℕ → ℕ → ℕ → Type 0
ShareDid p log n b stamp r k node = (x : Reduction) (rank : ℕ) → reduction_of p r ≡ Some x → number_in 0 (sharers_of n.roster x.owner) node ≡ Some rank →
    Given b.totals r k rank ⊎ TotalsWereSent stamp r k (sharers_of n.roster x.owner) log

-- all that a letter asks of a live node is done
abbrev pub BodyDid : Plan → List Sent → NodeState → Body → Letter → Type 0
BodyDid p log n b (letters.Parcel stamp entry k to payload) = same_stamp stamp n.last.stamp ≡ true → AllByRecursion (λ o. o.element.0 ≡ to.0 → Got p k (ports.Entry entry) o) b.objects
BodyDid p log n b (letters.Partial stamp r k node value) = same_stamp stamp n.last.stamp ≡ true → ShareDid p log n b n.last.stamp r.0 k node
BodyDid p log n b (letters.Total stamp r k value) =
    same_stamp stamp n.last.stamp ≡ true → (x : Reduction) → reduction_of p r.0 ≡ Some x → AllByRecursion (λ o. (place_of p o.element.0).array ≡ x.owner → Got p k (ports.Total r) o) b.objects
BodyDid p log n b (letters.Piece stamp piece) = piece.node ≡ n.slot.node → IsSomeAs b.other (HeldSince stamp piece)
BodyDid p log n b (letters.VerdictOf first second node k verdict piece) = Unit {0}
BodyDid p log n b (letters.Lend k fresh) = Unit {0}
BodyDid p log n b (letters.Take stamp k live piece) = Unit {0}
BodyDid p log n b (letters.Restore stamp k live) = Unit {0}
BodyDid p log n b (letters.Commit stamp k live) = Unit {0}
BodyDid p log n b (letters.Resume stamp) = Unit {0}
BodyDid p log n b (letters.Died stamp slot line) = Unit {0}
BodyDid p log n b letters.Stop = Unit {0}

abbrev pub Did : Plan → List Sent → Letter → NodeState → Type 0
Did p log letter n = IfSome n.body (λ (b : Body). BodyDid p log n b letter)

-- ---- what a node owes

-- the messages of each part that an object is past were sent
abbrev pub Paid : Plan → List ℕ → Stamp → List Sent → Progress → Type 0
Paid p place stamp log o = (x s q e k : ℕ) → Sends p x o.element.0 s q e → Past k s q o → ParcelWasSent place stamp x k e log

-- the contributions of each part that an object is past are gathered, or the node's share was sent
abbrev pub Contributed : Plan → NodeState → Body → List Sent → ℕ → Progress → Type 0
Contributed p n b log i o =
    (r s q k : ℕ) → Contributes p r o.element.0 s q → Past k s q o → Given b.gatherings r k (rank_of n.roster i) ⊎ PartialWasSent n.last.stamp r k n.slot.node log

-- of each item by its number, the first of which is i
abbrev pub AllNumbered : {A : Type 0} → (ℕ → A → Type 0) → ℕ → List A → Type 0
AllNumbered P i [] = Unit {0}
AllNumbered P i (x ∷ more) = P i x × AllNumbered P (suc i) more

-- Whatever a live node should have sent was sent. Its fresh piece is of the checkpoint at K, and its buddy's of that one
-- or an earlier one.
pub record BodyOwes (p : Plan) (place : List ℕ) (K : ℕ) (log : List Sent) (n : NodeState) (b : Body) : Type 0 where
  pub objects : AllByRecursion (Paid p place n.last.stamp log) b.objects
  pub contributed : AllNumbered (Contributed p n b log) 0 b.objects
  pub piece : n.slot.replica ≡ 1 → IfSome b.fresh (λ (piece : Piece). In (to_slot 0 n.slot.node (letters.Piece n.last.stamp piece)) log)
  pub verdict : (n.slot.replica ≡ 1 → ⊥) → IfSome b.fresh (λ (mine : Piece). IfSome b.other (λ (held : Held). mine.iteration ≡ held.piece.iteration → In (verdict_sent p n.last.stamp mine held) log))
  pub fresh : IfSome b.fresh (λ (piece : Piece). piece.iteration ≡ K)
  pub other : IfSome b.other (λ (held : Held). held.piece.iteration ≤ K)

abbrev pub Owes : Plan → List ℕ → ℕ → List Sent → NodeState → Type 0
Owes p place K log n = IfSome n.body (BodyOwes p place K log n)

-- a piece is of the checkpoint at K
abbrev pub IsAt : ℕ → Letter → Type 0
IsAt K (letters.Parcel stamp entry k to payload) = Unit {0}
IsAt K (letters.Partial stamp r k node value) = Unit {0}
IsAt K (letters.Total stamp r k value) = Unit {0}
IsAt K (letters.Piece stamp piece) = piece.iteration ≡ K
IsAt K (letters.VerdictOf first second node k verdict piece) = k ≡ K
IsAt K (letters.Lend k fresh) = Unit {0}
IsAt K (letters.Take stamp k live piece) = Unit {0}
IsAt K (letters.Restore stamp k live) = Unit {0}
IsAt K (letters.Commit stamp k live) = Unit {0}
IsAt K (letters.Resume stamp) = Unit {0}
IsAt K (letters.Died stamp slot line) = Unit {0}
IsAt K letters.Stop = Unit {0}

abbrev pub SentIsAt : ℕ → Sent → Type 0
SentIsAt K sent = IsAt K sent.letter

-- what an event of a node does with letters
pub record Moves (p : Plan) (place : List ℕ) (K : ℕ) (n : NodeState) (o : Outcome) : Type 0 where
  pub slot : o.node.slot ≡ n.slot
  pub last : o.node.last ≡ n.last
  -- what is done stays done
  pub did : (log : List Sent) (letter : Letter) → Owes p place K log n → Did p log letter n → Did p (log ++ o.out) letter o.node
  -- it sends what it owes
  pub owes : (log : List Sent) → Owes p place K log n → Owes p place K (log ++ o.out) o.node
  pub pieces : (log : List Sent) → Owes p place K log n → AllByRecursion (SentIsAt K) o.out

-- ---- laws

abbrev pub RunsMove : Type 0
RunsMove = (p : Plan) (script : List Fault) (place : List ℕ) (limit e K : ℕ) (n : NodeState) → Keeps p script place n → Moves p place K n (outcome_of (node_ran p script place limit e n))

abbrev pub TurnsMove : Type 0
TurnsMove = (p : Plan) (script : List Fault) (place : List ℕ) (limit K : ℕ) (n : NodeState) → Keeps p script place n → Moves p place K n (outcome_of (node_turned p script place limit n))

abbrev pub PacksMove : Type 0
PacksMove = (p : Plan) (script : List Fault) (place : List ℕ) (K : ℕ) (n : NodeState) → Keeps p script place n → Moves p place K n (node_packed p script K n)

pub record HearsMoveOn (p : Plan) (script : List Fault) (place : List ℕ) (letter : Letter) (K : ℕ) (n : NodeState) : Type 0 where
  pub moves : Moves p place K n (node_heard p script place letter n)
  -- what is heard is done
  pub done : (log : List Sent) → Did p (log ++ (node_heard p script place letter n).out) letter (node_heard p script place letter n).node

-- a letter that is no order
abbrev pub HearsMove : Type 0
HearsMove = (p : Plan) (script : List Fault) (place : List ℕ) (letter : Letter) (K : ℕ) (n : NodeState) → Keeps p script place n → Holds p script place (boxes.Slot n.slot) letter → IsAt K letter →
    is_mail letter ≡ true → HearsMoveOn p script place letter K n

-- an element of a node that is past its contribution of an iteration
pub record HasContributed (p : Plan) (r k : ℕ) (o : Progress) : Type 0 where
  pub step : ℕ
  pub part : ℕ
  pub gives : Contributes p r o.element.0 step part
  pub past : Past k step part o

-- Once all its elements of a reduction's array are past their contributions, of which there is one, a node has sent its
-- share.
abbrev pub SharesAreSent : Type 0
SharesAreSent = (p : Plan) (script : List Fault) (place : List ℕ) (K r k i : ℕ) (log : List Sent) (n : NodeState) (b : Body) (x : Reduction) (o : Progress) → Keeps p script place n → Owes p place K log n →
    n.body ≡ Some b → reduction_of p r ≡ Some x → slice_get b.objects i ≡ Some o → (place_of p o.element.0).array ≡ x.owner →
    AllByRecursion (λ other. (place_of p other.element.0).array ≡ x.owner → HasContributed p r k other) b.objects → PartialWasSent n.last.stamp r k n.slot.node log

-- a node's share was sent, and node 0 has heard it
pub record ShareCame (p : Plan) (r k : ℕ) (log : List Sent) (n : NodeState) (j : ℕ) : Type 0 where
  pub value : ℤ
  pub did : Did p log (letters.Partial n.last.stamp (reduction_id r) k j value) n

-- Once it has heard the shares of all sharers, of which there is one, node 0 has sent the totals.
abbrev pub TotalsAreSent : Type 0
TotalsAreSent = (p : Plan) (script : List Fault) (place : List ℕ) (r k i j : ℕ) (log : List Sent) (n : NodeState) (b : Body) (x : Reduction) → Keeps p script place n →
    n.body ≡ Some b → reduction_of p r ≡ Some x → number_in 0 (sharers_of n.roster x.owner) j ≡ Some i →
    AllByRecursion (ShareCame p r k log n) (sharers_of n.roster x.owner) → TotalsWereSent n.last.stamp r k (sharers_of n.roster x.owner) log
