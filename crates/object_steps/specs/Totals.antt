-- The totals of several nodes make the total of all contributions.
use Rattle.std.specs.Prelude.{◌≡◌, ℕ, zero, suc, ◌<◌, ◌==◌, ℤ, List, [], ◌∷◌, ◌++◌, map, Option, None, if◌then◌else◌}
use Rattle.std.specs.List.{AllByRecursion}
use Rattle.chare_base.specs.declared.plan.How.{How}
use Rattle.chare_base.specs.Total.{joined_to}
use Rattle.object_steps.specs.Partial.{total_of}

-- a contribution, and the node of the element that made it
pub record Made : Type 0 where
  pub node : ℕ
  pub value : ℤ

-- the contributions of one node's elements
abbrev pub made_at : ℕ → List Made → List ℤ
made_at j [] = []
made_at j (m ∷ more) = if m.node == j then m.value ∷ made_at j more else made_at j more

-- what they make: None where none of these elements lies on the node
abbrev pub node_total : How → List Made → ℕ → Option ℤ
node_total how all j = joined_to how None (made_at j all)

-- the totals of the first n nodes, in order
abbrev pub node_totals : How → List Made → ℕ → List (Option ℤ)
node_totals how all zero = []
node_totals how all (suc n) = node_totals how all n ++ (node_total how all n ∷ [])

-- Wherever each element lies, the nodes' totals make the total of all contributions.
abbrev pub NodesMakeWhole : Type 0
NodesMakeWhole = (how : How) (all : List Made) (n : ℕ) → AllByRecursion (λ m. m.node < n) all →
    total_of how (node_totals how all n) ≡ joined_to how None (map (λ m. m.value) all)
