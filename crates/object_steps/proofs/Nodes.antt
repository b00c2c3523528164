-- The totals of nodes make the total of all.
use Rattle.std.proofs.Common.{◌≡◌, ℕ, zero, suc, ◌<◌, ◌≤◌, ℤ, Bool, true, false, List, [], ◌∷◌, ◌++◌, map, refl, ap, sym, ◌∙◌, arith, Option, Some, None}
use Rattle.std.specs.Prelude.{◌==◌, if◌then◌else◌}
use Rattle.std.specs.List.{AllByRecursion}
use Rattle.std.proofs.lemmas.Bool.{eqb-true}
use Rattle.chare_base.specs.declared.plan.How.{How}
use Rattle.chare_base.specs.Total.{both, joined_to}
use Rattle.chare_base.proofs.Joined.{both_none, both_swapped, both_nested}
use Rattle.object_steps.specs.Partial.{total_of, values}
use Rattle.object_steps.specs.Totals.{Made, made_at, node_total, node_totals, NodesMakeWhole}
use Rattle.object_steps.proofs.Missing.{joined_next}

module _ (how : How) where
  abbrev with : Option ℤ → Option ℤ → Option ℤ
  with = both how

  -- what was there before stays in front
  joined_from : (total : Option ℤ) (vs : List ℤ) → joined_to how total vs ≡ with total (joined_to how None vs)
  joined_from total [] = sym (both_none how total)
  joined_from total (v ∷ vs) = joined_from (with total (Some v)) vs ∙ both_nested how total (Some v) (joined_to how None vs) ∙ ap (with total) (sym (joined_from (Some v) vs))

  -- a + (b + c) = b + (a + c)
  turned : (a b c : Option ℤ) → with a (with b c) ≡ with b (with a c)
  turned a b c = sym (both_nested how a b c) ∙ ap (λ x. with x c) (both_swapped how a b) ∙ both_nested how b a c

  -- the totals of the first n nodes, one joined to another
  abbrev joined_nodes : List Made → ℕ → Option ℤ
  joined_nodes all zero = None
  joined_nodes all (suc n) = with (joined_nodes all n) (node_total how all n)

  one_behind : (total : Option ℤ) (vs : List (Option ℤ)) (v : Option ℤ) → joined_to how total (values (vs ++ (v ∷ []))) ≡ with (joined_to how total (values vs)) v
  one_behind total [] v = sym (joined_next how total v [])
  one_behind total (None ∷ vs) v = one_behind total vs v
  one_behind total (Some x ∷ vs) v = one_behind (with total (Some x)) vs v

  joined_in_order : (all : List Made) (n : ℕ) → total_of how (node_totals how all n) ≡ joined_nodes all n
  joined_in_order all zero = refl
  joined_in_order all (suc n) = one_behind None (node_totals how all n) (node_total how all n) ∙ ap (λ t. with t (node_total how all n)) (joined_in_order all n)

  none_made : (n : ℕ) → joined_nodes [] n ≡ None
  none_made zero = refl
  none_made (suc n) = ap (λ t. with t None) (none_made n)

  abbrev here : Bool → ℤ → Option ℤ
  here b v = if b then Some v else None

  one_more : (m : Made) (all : List Made) (j : ℕ) → node_total how (m ∷ all) j ≡ with (here (m.node == j) m.value) (node_total how all j)
  one_more m all j = by_test (m.node == j)
    where
      by_test : (b : Bool) → joined_to how None (if b then m.value ∷ made_at j all else made_at j all) ≡ with (here b m.value) (node_total how all j)
      by_test true = joined_from (Some m.value) (made_at j all)
      by_test false = refl

  -- a contribution of a node that isn't among the first n
  beyond : (m : Made) (all : List Made) (n : ℕ) → n ≤ m.node → joined_nodes (m ∷ all) n ≡ joined_nodes all n
  beyond m all zero h = refl
  beyond m all (suc n) h =
      ap (λ t. with t (node_total how (m ∷ all) n)) (beyond m all n (omega (arith, h)))
      ∙ ap (with (joined_nodes all n)) (one_more m all n ∙ ap (λ b. with (here b m.value) (node_total how all n)) (differs m.node n h))
    where
      differs : (a b : ℕ) → suc b ≤ a → (a == b) ≡ false
      differs a b h = grind (arith, h)

  abbrev Inside : Made → List Made → ℕ → Type 0
  Inside m all n = joined_nodes (m ∷ all) n ≡ with (Some m.value) (joined_nodes all n)

  less : (a b : ℕ) → (a == b) ≡ false → a < suc b → a < b
  less a b e h = grind (arith, e, h)

  among : (m : Made) (all : List Made) (n : ℕ) (b : Bool) → (m.node == n) ≡ b → m.node < suc n → (m.node < n → Inside m all n) → Inside m all (suc n)
  among m all n true e h before =
      ap (λ t. with t (node_total how (m ∷ all) n)) (beyond m all n (let is : m.node ≡ n = eqb-true m.node n e in omega (arith, is)))
      ∙ ap (with (joined_nodes all n)) (one_more m all n ∙ ap (λ b. with (here b m.value) (node_total how all n)) e)
      ∙ turned (joined_nodes all n) (Some m.value) (node_total how all n)
  among m all n false e h before =
      ap (λ t. with t (node_total how (m ∷ all) n)) (before (less m.node n e h))
      ∙ ap (with (with (Some m.value) (joined_nodes all n))) (one_more m all n ∙ ap (λ b. with (here b m.value) (node_total how all n)) e)
      ∙ both_nested how (Some m.value) (joined_nodes all n) (node_total how all n)

  inside : (m : Made) (all : List Made) (n : ℕ) → m.node < n → Inside m all n
  inside m all zero h = absurd (omega (arith, h))
  inside m all (suc n) h = among m all n (m.node == n) refl h (inside m all n)

  all_nodes : (all : List Made) (n : ℕ) → AllByRecursion (λ m. m.node < n) all → joined_nodes all n ≡ joined_to how None (map (λ m. m.value) all)
  all_nodes [] n h = none_made n
  all_nodes (m ∷ all) n h = inside m all n h.0 ∙ ap (with (Some m.value)) (all_nodes all n h.1) ∙ sym (joined_from (Some m.value) (map (λ m. m.value) all))

pub nodes_make_whole : NodesMakeWhole
nodes_make_whole how all n h = joined_in_order how all n ∙ all_nodes how all n h
