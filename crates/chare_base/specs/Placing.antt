-- Placements: the node of each element, as a list in element order.
use Rattle.std.specs.Prelude.{◌≡◌, ℕ, zero, suc, ◌<◌, ◌*◌, ◌/◌, ◌==◌, if◌then◌else◌, List, [], ◌∷◌, Some, slice_get}
use Rattle.std.specs.List.{AllByRecursion}

-- the nodes of n elements, from element e on
abbrev pub nodes_from : (ℕ → ℕ) → ℕ → ℕ → List ℕ
nodes_from node e zero = []
nodes_from node e (suc n) = node e ∷ nodes_from node (suc e) n

-- consecutive blocks
abbrev pub block_nodes : ℕ → ℕ → List ℕ
block_nodes elements nodes = nodes_from (λ e. (e * nodes) / elements) 0 elements

-- an element that lives on a node
pub record Inhabitant (place : List ℕ) (j : ℕ) : Type 0 where
  pub element : ℕ
  pub lives : slice_get place element ≡ Some j

-- each element lives on one of the nodes, and each node has an element
pub record Covers (place : List ℕ) (nodes : ℕ) : Type 0 where
  pub within : AllByRecursion (λ j. j < nodes) place
  pub inhabited : (j : ℕ) → j < nodes → Inhabitant place j

-- the elements of node j, in element order; the first element of the list has number e
abbrev pub members_from : ℕ → List ℕ → ℕ → List ℕ
members_from e [] j = []
members_from e (node ∷ more) j = if node == j then e ∷ members_from (suc e) more j else members_from (suc e) more j

abbrev pub members : List ℕ → ℕ → List ℕ
members place j = members_from 0 place j
