-- The node of each element of blocks.
use Rattle.std.proofs.Common.{◌≡◌, ℕ, zero, suc, ◌+◌, ◌-◌, ◌*◌, ◌/◌, ◌<◌, ◌≤◌, List, [], ◌∷◌, length, refl, ap, sym, ◌∙◌, arith, Some}
use Rattle.std.specs.Prelude.{slice_get}
use Rattle.std.specs.List.{AllByRecursion}
use Rattle.std.proofs.Math.Nat.{div-lt_iff_lt-mul, div-mul-le_self, le-div_iff_mul-le, lt-div-mul-add, lt_of_mul-lt-mul_left, mul_comm, mul-le-mul_right, mul-lt-mul_of_pos_right}
use Rattle.chare_base.specs.Placing.{Covers, Inhabitant, nodes_from, block_nodes}

pub nodes_count : (node : ℕ → ℕ) (e n : ℕ) → length (nodes_from node e n) ≡ n
nodes_count node e zero = refl
nodes_count node e (suc n) = ap suc (nodes_count node (suc e) n)

pub nodes_at : (node : ℕ → ℕ) (e n i at : ℕ) → i < n → at ≡ e + i → slice_get (nodes_from node e n) i ≡ Some (node at)
nodes_at node e zero i at h is = absurd (omega (arith, h))
nodes_at node e (suc n) zero at h is = ap (λ x. Some (node x)) (omega (arith, is))
nodes_at node e (suc n) (suc i) at h is = nodes_at node (suc e) n i at (omega (arith, h)) (omega (arith, is))

-- blocks are within the nodes
pub block_within : (e nodes elements : ℕ) → e < elements → 1 ≤ nodes → (e * nodes) / elements < nodes
block_within e nodes elements h some =
    let below : e * nodes < nodes * elements = rw (mul_comm nodes elements) (mul-lt-mul_of_pos_right {m = e} {n = elements} {k = nodes} h (omega (arith, some))) in
    (div-lt_iff_lt-mul {k = elements} {x = e * nodes} {y = nodes} (omega (arith, h))).1 below

pub block_at : (elements nodes e : ℕ) → e < elements → slice_get (block_nodes elements nodes) e ≡ Some ((e * nodes) / elements)
block_at elements nodes e h = nodes_at (λ x. (x * nodes) / elements) 0 elements e e h (omega arith)

-- each is one of the nodes
nodes_all : (node : ℕ → ℕ) (count e n : ℕ) → ((i : ℕ) → i < e + n → node i < count) → AllByRecursion (λ j. j < count) (nodes_from node e n)
nodes_all node count e zero h = tt
nodes_all node count e (suc n) h = (h e (omega arith), nodes_all node count (suc e) n (λ i below. h i (omega (arith, below))))

pub blocks_within : (elements nodes : ℕ) → 1 ≤ nodes → AllByRecursion (λ j. j < nodes) (block_nodes elements nodes)
blocks_within elements nodes some = nodes_all (λ e. (e * nodes) / elements) nodes 0 elements (λ i h. block_within i nodes elements (omega (arith, h)) some)

pub blocks_count : (elements nodes : ℕ) → length (block_nodes elements nodes) ≡ elements
blocks_count elements nodes = nodes_count (λ e. (e * nodes) / elements) 0 elements

-- each node has an element: the least whose block is not below it
reaches_up : (j nodes elements e : ℕ) → 1 ≤ nodes → nodes ≤ elements → e * nodes ≤ j * elements + (nodes - 1) → e * nodes < suc j * elements
reaches_up j nodes elements e some few h = omega (arith, some, few, h)

reaches_down : (j nodes elements e : ℕ) → 1 ≤ nodes → j * elements + (nodes - 1) < e * nodes + nodes → j * elements ≤ e * nodes
reaches_down j nodes elements e some h = omega (arith, some, h)

is_block : (j nodes elements e : ℕ) → 1 ≤ elements → e * nodes < suc j * elements → j * elements ≤ e * nodes → (e * nodes) / elements ≡ j
is_block j nodes elements e some high low =
    let above : (e * nodes) / elements < suc j = (div-lt_iff_lt-mul {k = elements} {x = e * nodes} {y = suc j} (omega (arith, some))).1 high in
    let below : j ≤ (e * nodes) / elements = (le-div_iff_mul-le {k = elements} {x = j} {y = e * nodes} (omega (arith, some))).1 low in
    omega (arith, above, below)

within_all : (j nodes elements e : ℕ) → j < nodes → e * nodes < suc j * elements → e < elements
within_all j nodes elements e h high =
    let most : suc j * elements ≤ nodes * elements = mul-le-mul_right elements (omega (arith, h)) in
    lt_of_mul-lt-mul_left nodes (rw (mul_comm nodes e) (omega (arith, high, most)))

first_of_block : (elements nodes j e : ℕ) → 1 ≤ nodes → nodes ≤ elements → j < nodes → e ≡ (j * elements + (nodes - 1)) / nodes → Inhabitant (block_nodes elements nodes) j
first_of_block elements nodes j e some few h is =
    let up : e * nodes ≤ j * elements + (nodes - 1) = rw is (div-mul-le_self (j * elements + (nodes - 1)) nodes) in
    let down : j * elements + (nodes - 1) < e * nodes + nodes = rw is (lt-div-mul-add {a = j * elements + (nodes - 1)} {b = nodes} (omega (arith, some))) in
    let high : e * nodes < suc j * elements = reaches_up j nodes elements e some few up in
    let low : j * elements ≤ e * nodes = reaches_down j nodes elements e some down in
    record { element = e; lives = block_at elements nodes e (within_all j nodes elements e h high) ∙ ap Some (is_block j nodes elements e (omega (arith, some, few)) high low) }

-- what the meaning of blocks promises
pub blocks_cover : (elements nodes : ℕ) → 1 ≤ nodes → nodes ≤ elements → Covers (block_nodes elements nodes) nodes
blocks_cover elements nodes some few = record {
  within = blocks_within elements nodes some;
  inhabited = λ j h. first_of_block elements nodes j ((j * elements + (nodes - 1)) / nodes) some few h refl;
}
