-- What verdicts tell.
use Rattle.std.specs.Prelude.{◌≡◌, ◌≢◌, ◌↔◌, ℕ, ◌<◌, ◌≤◌, List, [], ◌∷◌, length}
use Rattle.std.specs.List.{AllByRecursion, Contains}
use Rattle.chare_base.specs.declared.cells.Cells.{Cells}
use Rattle.chare_base.specs.declared.plan.ElementId.{ElementId}
use Rattle.chare_base.specs.declared.plan.Plan.{Plan}
use Rattle.chare_base.specs.Elements.{elements}
use Rattle.chare_base.specs.Placing.{Covers, members}
use Rattle.chare_base.specs.Shape.{Shaped}
use Rattle.pup_state.specs.declared.compare.Verdict.{Verdict}
use Rattle.pup_state.specs.declared.compare.Verdict.TheVariants.{Equal, Differ}
use Rattle.pup_state.specs.Spelling.{cells_at, pack, record_spelling, records_of}
use Rattle.buddy_compare.specs.Comparing.{verdict_of}

abbrev pub EqualExactly : Type 0
EqualExactly = (p : Plan) (a b : List ℕ) → (verdict_of p a b ≡ Equal) ↔ (a ≡ b)

-- an element's record in a state
abbrev pub record_in : Plan → ℕ → List Cells → ℕ → List ℕ
record_in p k all e = record_spelling p e k (cells_at all e)

abbrev pub SameRecord : Plan → ℕ → List Cells → List Cells → ℕ → Type 0
SameRecord p k x y e = record_in p k x e ≡ record_in p k y e

-- ---- one node

abbrev pub Ascending : List ℕ → Type 0
Ascending [] = Unit {0}
Ascending (e ∷ more) = AllByRecursion (λ i. e < i) more × Ascending more

-- one of these elements whose records differ, and those of the lesser ones are equal
pub record LeastOfThese (p : Plan) (k : ℕ) (x y : List Cells) (these : List ℕ) (e : ℕ) : Type 0 where
  pub there : Contains these e
  pub differs : record_in p k x e ≢ record_in p k y e
  pub before : AllByRecursion (λ i. i < e → SameRecord p k x y i) these

abbrev pub NamesTheLeast : Type 0
NamesTheLeast = (p : Plan) (k : ℕ) (x y : List Cells) (these : List ℕ) (e : ElementId) → Shaped p x → Shaped p y →
    AllByRecursion (λ i. i < elements p) these → Ascending these →
    verdict_of p (records_of p k x these) (records_of p k y these) ≡ Differ e → LeastOfThese p k x y these e.0

-- ---- all nodes

-- the verdict on the pieces of node j, where elements live on these nodes
abbrev pub node_verdict : Plan → ℕ → List ℕ → List Cells → List Cells → ℕ → Verdict
node_verdict p k place x y j = verdict_of p (records_of p k x (members place j)) (records_of p k y (members place j))

-- the least element whose records differ
pub record FirstDifference (p : Plan) (k : ℕ) (x y : List Cells) (e : ℕ) : Type 0 where
  pub there : e < elements p
  pub differs : record_in p k x e ≢ record_in p k y e
  pub before : (i : ℕ) → i < e → SameRecord p k x y i

-- the least element that a node's verdict names is the least of all that differ
abbrev pub LeastOfAll : Type 0
LeastOfAll = (p : Plan) (k : ℕ) (place : List ℕ) (nodes : ℕ) (x y : List Cells) (j : ℕ) (e : ElementId) → Shaped p x → Shaped p y →
    length place ≡ elements p → Covers place nodes → node_verdict p k place x y j ≡ Differ e →
    ((i : ℕ) (other : ElementId) → i < nodes → node_verdict p k place x y i ≡ Differ other → e.0 ≤ other.0) →
    FirstDifference p k x y e.0

-- where all nodes' pieces are equal, so are the checkpoints
abbrev pub AllEqual : Type 0
AllEqual = (p : Plan) (k : ℕ) (place : List ℕ) (nodes : ℕ) (x y : List Cells) → Shaped p x → Shaped p y →
    length place ≡ elements p → Covers place nodes → ((i : ℕ) → i < nodes → node_verdict p k place x y i ≡ Equal) →
    pack p k x ≡ pack p k y
