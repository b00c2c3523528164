-- Orders to a slot: what it remembers of the last one, and which may follow.
use Rattle.std.specs.Prelude.{◌≡◌, ℕ, Bool, List, [], ◌∷◌, ◌++◌, is_none, Option, Some, None}
use Rattle.std.specs.List.{AllByRecursion}
use Rattle.chare_base.specs.declared.plan.Plan.{Plan}
use Rattle.chare_base.specs.declared.slots.LineSet.{LineSet}
use Rattle.chare_eval.specs.Fold.{fold}
use Rattle.chare_eval.specs.Later.{flips_from}
use Rattle.chare_eval.specs.Laws.{flips_before}
use Rattle.fault_script.specs.declared.fault.Fault.{Fault}
use Rattle.pup_state.specs.declared.piece.Piece.{Piece}
use Rattle.letter_post.specs.declared.letter.Letter.{Letter}
use Rattle.letter_post.specs.declared.letter.Letter.TheVariants as letters
use Rattle.letter_post.specs.declared.order.LastOrder.{LastOrder}
use Rattle.letter_post.specs.declared.stamp.Stamp.{Stamp}
use Rattle.letter_post.specs.Stamps.{lines_of}

-- ---- orders and mail

-- a letter that changes under which stamp a slot runs, or whether it does
pub data Order : Type 0 where
  Restore : (stamp : Stamp) (k : ℕ) (live : LineSet) → Order
  Commit : (stamp : Stamp) (k : ℕ) (live : LineSet) → Order
  Resume : (stamp : Stamp) → Order
  Take : (stamp : Stamp) (k : ℕ) (live : LineSet) (piece : Piece) → Order

-- the order that a letter is
abbrev pub order_of : Letter → Option Order
order_of (letters.Parcel stamp entry k to payload) = None
order_of (letters.Partial stamp reduction k node value) = None
order_of (letters.Total stamp reduction k value) = None
order_of (letters.Piece stamp piece) = None
order_of (letters.VerdictOf first second node k verdict piece) = None
order_of (letters.Lend k fresh) = None
order_of (letters.Take stamp k live piece) = Some (Take stamp k live piece)
order_of (letters.Restore stamp k live) = Some (Restore stamp k live)
order_of (letters.Commit stamp k live) = Some (Commit stamp k live)
order_of (letters.Resume stamp) = Some (Resume stamp)
order_of (letters.Died stamp slot line) = None
order_of letters.Stop = None

-- the stamp in an order
abbrev pub stamp_in : Order → Stamp
stamp_in (Restore stamp k live) = stamp
stamp_in (Commit stamp k live) = stamp
stamp_in (Resume stamp) = stamp
stamp_in (Take stamp k live piece) = stamp

-- a letter that is no order
abbrev pub is_mail : Letter → Bool
is_mail letter = is_none (order_of letter)

-- ---- the last order

abbrev pub order_at : Stamp → ℕ → LastOrder
order_at stamp k = record { stamp = stamp; base = k }

abbrev pub next_by : LastOrder → Option Order → LastOrder
next_by last None = last
next_by last (Some (Restore stamp k live)) = order_at stamp k
next_by last (Some (Commit stamp k live)) = order_at stamp k
next_by last (Some (Resume stamp)) = last
next_by last (Some (Take stamp k live piece)) = order_at stamp k

-- the last order of a slot after it heard a letter
abbrev pub next_order : LastOrder → Letter → LastOrder
next_order last letter = next_by last (order_of letter)

-- ---- which orders may follow

-- It goes back to the base, below which the same flips shaped it.
pub record GoesBack (script : List Fault) (last : LastOrder) (stamp : Stamp) (k : ℕ) : Type 0 where
  pub replica : stamp.replica ≡ last.stamp.replica
  pub base : k ≡ last.base
  pub flips : flips_before k (lines_of script stamp) ≡ flips_before k (lines_of script last.stamp)

-- It takes a new base: the states there are the same, and the flips from there on.
pub record TakesBase (p : Plan) (script : List Fault) (last : LastOrder) (stamp : Stamp) (k : ℕ) : Type 0 where
  pub replica : stamp.replica ≡ last.stamp.replica
  pub epoch : stamp.epoch ≡ last.stamp.epoch
  pub states : fold p (lines_of script last.stamp) k ≡ fold p (lines_of script stamp) k
  pub flips : flips_from k (lines_of script last.stamp) ≡ flips_from k (lines_of script stamp)

abbrev pub FollowsBy : Plan → List Fault → LastOrder → Option Order → Type 0
FollowsBy p script last None = Unit {0}
FollowsBy p script last (Some (Restore stamp k live)) = GoesBack script last stamp k
FollowsBy p script last (Some (Commit stamp k live)) = TakesBase p script last stamp k
FollowsBy p script last (Some (Resume stamp)) = stamp ≡ last.stamp
FollowsBy p script last (Some (Take stamp k live piece)) = stamp.replica ≡ last.stamp.replica

-- a letter may come to a slot whose last order this is; any may that is no order
abbrev pub FollowsOrder : Plan → List Fault → LastOrder → Letter → Type 0
FollowsOrder p script last letter = FollowsBy p script last (order_of letter)

-- Letters that come one after another: each follows, and behind them this is the last order.
abbrev pub Chain : Plan → List Fault → LastOrder → List Letter → LastOrder → Type 0
Chain p script last [] end = last ≡ end
Chain p script last (letter ∷ more) end = FollowsOrder p script last letter × Chain p script (next_order last letter) more end

-- ---- laws

-- a letter that follows the last one may be put behind them
abbrev pub ChainsTakeOne : Type 0
ChainsTakeOne = (p : Plan) (script : List Fault) (last end : LastOrder) (all : List Letter) (letter : Letter) → Chain p script last all end → FollowsOrder p script end letter →
    Chain p script last (all ++ letter ∷ []) (next_order end letter)

-- and so may letters that follow it one after another
abbrev pub ChainsTakeAll : Type 0
ChainsTakeAll = (p : Plan) (script : List Fault) (last middle end : LastOrder) (all more : List Letter) → Chain p script last all middle → Chain p script middle more end →
    Chain p script last (all ++ more) end

-- letters that are no orders follow any
abbrev pub MailFollows : Type 0
MailFollows = (p : Plan) (script : List Fault) (last : LastOrder) (all : List Letter) → AllByRecursion (λ letter. order_of letter ≡ None) all → Chain p script last all last
