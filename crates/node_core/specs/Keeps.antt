-- What holds of a node, and what each event keeps.
use Rattle.std.specs.Prelude.{◌≡◌, ℕ, ◌≤◌, ℤ, true, false, List, [], ◌∷◌, length, map, Option, Some, None, IfSome, is_some}
use Rattle.std.specs.List.{AllByRecursion, list_all}
use Rattle.chare_base.specs.declared.plan.How.{How}
use Rattle.chare_base.specs.declared.plan.Plan.{Plan}
use Rattle.chare_base.specs.declared.plan.Reduction.{Reduction}
use Rattle.chare_base.specs.declared.slots.LineSet.{LineSet}
use Rattle.chare_base.specs.declared.slots.SlotId.{SlotId}
use Rattle.chare_base.specs.Elements.{elements}
use Rattle.chare_base.specs.Entries.{reduction_of}
use Rattle.chare_base.specs.Flip.{Flip}
use Rattle.chare_base.specs.Placing.{members}
use Rattle.chare_base.specs.Total.{joined_to}
use Rattle.chare_eval.specs.Laws.{contribution_of}
use Rattle.fault_script.specs.declared.fault.Fault.{Fault}
use Rattle.letter_post.specs.declared.letter.BoxId.TheVariants as boxes
use Rattle.letter_post.specs.declared.letter.Letter.{Letter}
use Rattle.letter_post.specs.declared.letter.Letter.TheVariants as letters
use Rattle.letter_post.specs.declared.order.LastOrder.{LastOrder}
use Rattle.letter_post.specs.declared.stamp.Stamp.{Stamp}
use Rattle.letter_post.specs.Orders.{FollowsOrder, GoesBack, next_order}
use Rattle.letter_post.specs.Stamps.{lines_of}
use Rattle.letter_post.specs.Truth.{Holds, IsPiece, Says, contributions_of, node_members}
use Rattle.object_steps.specs.Laws.{Follows}
use Rattle.object_steps.specs.Objects.{Fits, Progress}
use Rattle.object_steps.specs.Partial.{Gathered}
use Rattle.pup_state.specs.declared.piece.Piece.{Piece}
use Rattle.node_core.specs.declared.piece.Held.{Held}
use Rattle.node_core.specs.Gatherings.{Gathering}
use Rattle.node_core.specs.Nodes.{Body, NodeState, Outcome, all_at, node_heard, node_packed, node_ran, node_turned, outcome_of}
use Rattle.node_core.specs.Rosters.{Roster, roster_of, sharers_of}
use Rattle.node_core.specs.Starts.{start_state}
use Rattle.node_core.specs.Turns.{is_at}

-- ---- what the calls ask

abbrev pub FittedBody : Plan → Option Body → Type 0
FittedBody p None = Unit {0}
FittedBody p (Some b) = AllByRecursion (Fits p) b.objects

-- a node's objects fit the plan
abbrev pub Fitted : Plan → NodeState → Type 0
Fitted p n = FittedBody p n.body

-- ---- what a node keeps

abbrev pub element_of : Progress → ℕ
element_of o = o.element.0

-- each of these members that gave a number gave its own
abbrev pub Gives : (ℕ → Option ℤ) → List ℕ → List (Option ℤ) → Type 0
Gives own [] [] = Unit {0}
Gives own [] (given ∷ more) = ⊥
Gives own (m ∷ ms) [] = ⊥
Gives own (m ∷ ms) (given ∷ more) = IfSome given (λ v. own m ≡ Some v) × Gives own ms more

-- members give their own numbers, of which one is missing
pub record Gathers (how : How) (own : ℕ → Option ℤ) (ms : List ℕ) (g : Gathered) : Type 0 where
  pub joined : g.how ≡ how
  pub gives : Gives own ms g.given
  pub missing : list_all is_some g.given ≡ false

-- the contributions of a node's elements, in element order
pub record IsGathering (p : Plan) (place : List ℕ) (lines : List Flip) (j : ℕ) (g : Gathering) : Type 0 where
  pub reduction : Reduction
  pub there : reduction_of p g.reduction.0 ≡ Some reduction
  pub gathers : Gathers reduction.how (contribution_of p lines g.iteration g.reduction.0) (node_members p place reduction j) g.gathered

-- what a node's elements contributed
abbrev pub share_of : Plan → List ℕ → List Flip → Reduction → ℕ → ℕ → ℕ → Option ℤ
share_of p place lines x r k j = joined_to x.how None (contributions_of p lines k r (node_members p place x j))

-- the shares of the nodes that have elements of the array, in node order
pub record IsSharing (p : Plan) (place : List ℕ) (lines : List Flip) (roster : Roster) (g : Gathering) : Type 0 where
  pub reduction : Reduction
  pub there : reduction_of p g.reduction.0 ≡ Some reduction
  pub gathers : Gathers reduction.how (share_of p place lines reduction g.reduction.0 g.iteration) (sharers_of roster reduction.owner) g.gathered

-- a piece of a node's own number that is the definition's
pub record IsPieceOf (p : Plan) (place : List ℕ) (lines : List Flip) (j : ℕ) (piece : Piece) : Type 0 where
  pub node : piece.node ≡ j
  pub is : IsPiece p place lines piece

pub record IsHeld (p : Plan) (script : List Fault) (place : List ℕ) (j : ℕ) (held : Held) : Type 0 where
  pub is : IsPieceOf p place (lines_of script held.stamp) j held.piece

abbrev pub AllAt : ℕ → List Progress → Type 0
AllAt k objects = AllByRecursion (λ o. is_at k o ≡ true) objects

-- a live node of number j, under the flips of its stamp
pub record Alive (p : Plan) (script : List Fault) (place : List ℕ) (n : NodeState) (b : Body) : Type 0 where
  -- it has its own elements, and their objects follow the definition
  pub members : map element_of b.objects ≡ members place n.slot.node
  pub objects : AllByRecursion (Follows p (lines_of script n.last.stamp)) b.objects
  -- what it gathers is the definition's
  pub gatherings : AllByRecursion (IsGathering p place (lines_of script n.last.stamp) n.slot.node) b.gatherings
  pub totals : AllByRecursion (IsSharing p place (lines_of script n.last.stamp) n.roster) b.totals
  -- its pieces are, and its buddy's
  pub base : IsPieceOf p place (lines_of script n.last.stamp) n.slot.node b.base
  pub based : b.base.iteration ≡ n.last.base
  pub fresh : IfSome b.fresh (IsPieceOf p place (lines_of script n.last.stamp) n.slot.node)
  pub other : IfSome b.other (IsHeld p script place n.slot.node)
  -- once it has packed, its elements are where it packed
  pub packed : IfSome b.fresh (λ (piece : Piece). AllAt piece.iteration b.objects)

-- the roster is the placement's
pub record IsRoster (p : Plan) (place : List ℕ) (n : NodeState) : Type 0 where
  pub count : length place ≡ elements p
  pub is : n.roster ≡ roster_of p place n.slot.node

-- A spent node keeps its slot, its stamp and its roster alone.
pub record Keeps (p : Plan) (script : List Fault) (place : List ℕ) (n : NodeState) : Type 0 where
  pub stamped : n.last.stamp.replica ≡ n.slot.replica
  pub roster : IsRoster p place n
  pub body : IfSome n.body (Alive p script place n)

-- ---- laws

-- it keeps what it kept, under this last order, and says what is true
pub record KeepsOn (p : Plan) (script : List Fault) (place : List ℕ) (n : NodeState) (order : LastOrder) (o : Outcome) : Type 0 where
  pub slot : o.node.slot ≡ n.slot
  pub last : o.node.last ≡ order
  pub roster : o.node.roster ≡ n.roster
  pub keeps : Keeps p script place o.node
  pub says : AllByRecursion (Says p script place) o.out

abbrev pub StartsKeep : Type 0
StartsKeep = (p : Plan) (script : List Fault) (place : List ℕ) (slot : SlotId) (live : LineSet) → length place ≡ elements p → Keeps p script place (start_state p script place slot live)

-- a node that has packed begins nothing from there on
abbrev pub CappedBody : ℕ → Option Body → Type 0
CappedBody limit None = Unit {0}
CappedBody limit (Some b) = IfSome b.fresh (λ (piece : Piece). limit ≤ piece.iteration)

abbrev pub Capped : ℕ → NodeState → Type 0
Capped limit n = CappedBody limit n.body

abbrev pub RunsKeep : Type 0
RunsKeep = (p : Plan) (script : List Fault) (place : List ℕ) (limit e : ℕ) (n : NodeState) → Keeps p script place n → Capped limit n →
    KeepsOn p script place n n.last (outcome_of (node_ran p script place limit e n))

abbrev pub TurnsKeep : Type 0
TurnsKeep = (p : Plan) (script : List Fault) (place : List ℕ) (limit : ℕ) (n : NodeState) → Keeps p script place n → Capped limit n →
    KeepsOn p script place n n.last (outcome_of (node_turned p script place limit n))

abbrev pub PacksKeep : Type 0
PacksKeep = (p : Plan) (script : List Fault) (place : List ℕ) (k : ℕ) (n : NodeState) → Keeps p script place n → all_at k n ≡ true → k ≤ p.iterations →
    KeepsOn p script place n n.last (node_packed p script k n)

-- a true letter, which follows the last order if it is one
abbrev pub HearsKeep : Type 0
HearsKeep = (p : Plan) (script : List Fault) (place : List ℕ) (letter : Letter) (n : NodeState) → Keeps p script place n → Holds p script place (boxes.Slot n.slot) letter →
    FollowsOrder p script n.last letter → KeepsOn p script place n (next_order n.last letter) (node_heard p script place letter n)

-- A live node with a new base waits, has no other piece of its own, and all its elements are where the base is.
pub record RestsAt (k : ℕ) (b : Body) : Type 0 where
  pub waits : b.waits ≡ true
  pub fresh : b.fresh ≡ None
  pub based : b.base.iteration ≡ k
  pub objects : AllAt k b.objects

pub record OrdersRest : Type 0 where
  pub restores : (p : Plan) (script : List Fault) (place : List ℕ) (n : NodeState) (stamp : Stamp) (k : ℕ) (live : LineSet) → Keeps p script place n → GoesBack script n.last stamp k →
      IfSome (node_heard p script place (letters.Restore stamp k live) n).node.body (RestsAt k)
  pub commits : (p : Plan) (script : List Fault) (place : List ℕ) (n : NodeState) (stamp : Stamp) (k : ℕ) (live : LineSet) →
      IfSome (node_heard p script place (letters.Commit stamp k live) n).node.body (RestsAt k)
  pub takes : (p : Plan) (script : List Fault) (place : List ℕ) (n : NodeState) (stamp : Stamp) (k : ℕ) (live : LineSet) (piece : Piece) → Keeps p script place n →
      Holds p script place (boxes.Slot n.slot) (letters.Take stamp k live piece) → IfSome (node_heard p script place (letters.Take stamp k live piece) n).node.body (RestsAt k)

-- what a node keeps is what its calls ask
abbrev pub KeepsFits : Type 0
KeepsFits = (p : Plan) (script : List Fault) (place : List ℕ) (n : NodeState) → Keeps p script place n → Fitted p n
