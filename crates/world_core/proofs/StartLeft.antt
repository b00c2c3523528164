-- The turns of a schedule are as many as what is left at the start of a run without faults.
use Rattle.std.proofs.Common.{◌≡◌, ℕ, zero, suc, ◌+◌, ◌*◌, ◌-◌, ◌<◌, ◌≤◌, Bool, true, false, cond, List, [], ◌∷◌, length, refl, ap, ◌∙◌, arith}
use Rattle.std.specs.Prelude.{◌==◌, is_some}
use Rattle.std.specs.List.{AllByRecursion}
use Rattle.std.proofs.Math.Nat.{mul_comm, suc-mul}
use Rattle.std.proofs.lemmas.Bool.{eqb-true}
use Rattle.std.proofs.lemmas.Bool.Decides.{nat_tests}
use Rattle.chare_base.specs.declared.options.Options.{Options}
use Rattle.chare_base.specs.Elements.{elements}
use Rattle.chare_base.specs.Placing.{members, members_from}
use Rattle.iteration_agree.specs.Cuts.{CutState, opening_cut, slot_of}
use Rattle.iteration_agree.specs.declared.round.Round.TheVariants as rounds
use Rattle.node_core.specs.Costs.{StartLeaves, round_cost, sum, times}
use Rattle.node_core.specs.Starts.{start_state}
use Rattle.node_core.proofs.Sums.{sum_append}
use Rattle.conductor_core.specs.Conductors.{ConductorState, start_conductor}
use Rattle.conductor_core.specs.Openings.{all_lines}
use Rattle.world_core.specs.Costs.{going_left, looks_left, round_left, rounds_left, slot_left, slots_left, world_left}
use Rattle.world_core.specs.Still.{IsPlain}
use Rattle.world_core.specs.Worlds.{Setting, opening_slot_at, opening_slots, opening_world}
use Rattle.world_core.proofs.Conducted.{looks_most_left, see_few}
use Rattle.world_core.proofs.Weights.{times_more}
use Rattle.world_core.proofs.Widths.{below_add, below_same, sum_below, times_add}
use Rattle.world_core.proofs.RoundCosts.{below_shift}

-- ---- products

pub times_is : (a b : ℕ) → times a b ≡ a * b
times_is zero b = omega arith
times_is (suc a) b = let rest = times_is a b in let one = suc-mul a b in omega (arith, rest, one)

pub times_plus : (n a b : ℕ) → times n (a + b) ≡ times n a + times n b
times_plus zero a b = refl
times_plus (suc n) a b = let rest = times_plus n a b in omega (arith, rest)

times_swap : (a b c : ℕ) → times a (times b c) ≡ times b (times a c)
times_swap zero b c = none b
  where
    none : (n : ℕ) → 0 ≡ times n 0
    none zero = refl
    none (suc n) = none n ∙ more (times n 0)
      where
        more : (m : ℕ) → m ≡ 0 + m
        more m = omega arith
times_swap (suc a) b c = let rest = times_swap a b c in let both = times_plus b c (times a c) in omega (arith, rest, both)

pub times_wide : (n a b : ℕ) → a ≤ b → times n a ≤ times n b
times_wide zero a b less = omega arith
times_wide (suc n) a b less = let rest = times_wide n a b less in omega (arith, less, rest)

times_below : (n : ℕ) (f : ℕ → ℕ) (m : ℕ) → sum_below (λ e. times n (f e)) m ≡ times n (sum_below f m)
times_below n f zero = none n
  where
    none : (n : ℕ) → 0 ≡ times n 0
    none zero = refl
    none (suc n) = let rest = none n in omega (arith, rest)
times_below n f (suc m) = let rest = times_below n f m in let both = times_plus n (sum_below f m) (f m) in omega (arith, rest, both)

pub below_const : (c n : ℕ) → sum_below (λ e. c) n ≡ times n c
below_const c zero = refl
below_const c (suc n) = let rest = below_const c n in omega (arith, rest)

-- ---- the elements of all nodes

none_at : (node c n : ℕ) → n ≤ node → sum_below (λ j. cond (node == j) c 0) n ≡ 0
none_at node c zero few = refl
none_at node c (suc n) few =
    let rest = none_at node c n (omega (arith, few)) in
    let other : (node == n) ≡ false = grind (arith, nat_tests, few) in
    let here : cond (node == n) c 0 ≡ 0 = ap (λ b. cond b c 0) other in
    omega (arith, rest, here)

single : (node c n : ℕ) → node < n → sum_below (λ j. cond (node == j) c 0) n ≡ c
single node c zero less = absurd (omega (arith, less))
single node c (suc n) less = by (node == n) refl (single node c n)
  where
    by : (b : Bool) → (node == n) ≡ b → (node < n → sum_below (λ j. cond (node == j) c 0) n ≡ c) → sum_below (λ j. cond (node == j) c 0) (suc n) ≡ c
    by true is rest =
        let before = none_at node c n (let at = eqb-true node n is in omega (arith, at)) in
        let here : cond (node == n) c 0 ≡ c = ap (λ b. cond b c 0) is in
        omega (arith, before, here)
    by false is rest =
        let before = rest (grind (arith, nat_tests, is, less)) in
        let here : cond (node == n) c 0 ≡ 0 = ap (λ b. cond b c 0) is in
        omega (arith, before, here)

over_from : (f : ℕ → ℕ) (nodes start : ℕ) (place : List ℕ) → AllByRecursion (λ j. j < nodes) place → sum_below (λ j. sum f (members_from start place j)) nodes ≡ sum_below (λ i. f (start + i)) (length place)
over_from f nodes start [] within = below_const 0 nodes ∙ none nodes
  where
    none : (n : ℕ) → times n 0 ≡ 0
    none zero = refl
    none (suc n) = let rest = none n in omega (arith, rest)
over_from f nodes start (node ∷ more) within =
    let each = below_same (λ j. sum f (members_from start (node ∷ more) j)) (λ j. cond (node == j) (f start) 0 + sum f (members_from (suc start) more j)) nodes (λ j less. one (node == j) (members_from (suc start) more j)) in
    let both = below_add (λ j. cond (node == j) (f start) 0) (λ j. sum f (members_from (suc start) more j)) nodes in
    let own = single node (f start) nodes within.0 in
    let rest = over_from f nodes (suc start) more within.1 in
    let first = below_shift (λ i. f (start + i)) (length more) in
    let head : f (start + 0) ≡ f start = let at : start + 0 ≡ start = omega arith in ap f at in
    let tail = below_same (λ i. f (start + suc i)) (λ i. f (suc start + i)) (length more) (λ i less. let at : start + suc i ≡ suc start + i = omega arith in ap f at) in
    omega (arith, each, both, own, rest, first, head, tail)
  where
    one : (b : Bool) (rest : List ℕ) → sum f (cond b (start ∷ rest) rest) ≡ cond b (f start) 0 + sum f rest
    one true rest = refl
    one false rest = omega arith

over_all : (f : ℕ → ℕ) (nodes : ℕ) (place : List ℕ) → AllByRecursion (λ j. j < nodes) place → sum_below (λ j. sum f (members place j)) nodes ≡ sum_below f (length place)
over_all f nodes place within = over_from f nodes 0 place within ∙ below_same (λ i. f (0 + i)) f (length place) (λ i less. let at : 0 + i ≡ i = omega arith in ap f at)

-- ---- the start

module _ (leaves : StartLeaves) (s : Setting) (o : Options) (plain : IsPlain s o) where
  abbrev places : ℕ
  places = s.nodes + s.nodes

  abbrev jobs : ℕ
  jobs = s.plan.iterations

  abbrev cost : ℕ → ℕ
  cost e = round_cost s.plan s.place e

  abbrev cut : CutState
  cut = opening_cut s.nodes

  -- what is left of all elements of a slot, and beside them
  abbrev node_work : ℕ → ℕ
  node_work j = sum (λ e. times jobs (cost e)) (members s.place j)

  abbrev slot_work : ℕ
  slot_work = 4 + times jobs (suc places)

  slot_start : (r j : ℕ) → slot_left s cut (opening_slot_at s r j) ≤ node_work j + slot_work
  unfolding opening_cut start_state
  slot_start r j =
      let node = leaves s.plan s.script s.place (record { replica = r; node = j }) (record { 0 = all_lines s.script }) in
      let see = see_few (rounds.Quiet 0) (slot_of cut (record { replica = r; node = j })) in
      let begins = times_more (jobs - (slot_of cut (record { replica = r; node = j })).top) jobs (suc places) (omega arith) in
      omega (arith, node, see, begins)

  slots_start : (r n : ℕ) → slots_left s cut (opening_slots s r n) ≤ sum_below node_work n + times n slot_work
  slots_start r zero = omega arith
  slots_start r (suc j) =
      let both = sum_append (slot_left s cut) (opening_slots s r j) (opening_slot_at s r j ∷ []) in
      let rest = slots_start r j in
      let here = slot_start r j in
      omega (arith, both, rest, here)

  abbrev start : ConductorState
  start = start_conductor s.script o jobs

  -- what all elements of a replica cost in an iteration
  abbrev pub work : ℕ
  work = sum_below cost (elements s.plan)

  nodes_work : sum_below node_work s.nodes ≡ times jobs work
  nodes_work =
      over_all (λ e. times jobs (cost e)) s.nodes s.place plain.placed.covers.within
      ∙ ap (sum_below (λ e. times jobs (cost e))) plain.placed.count
      ∙ times_below jobs cost (elements s.plan)

  rounds_start : rounds_left places jobs start.ledger.base (sum (λ (b : Bool). cond b 0 1) start.noted) start.phase ≤ times jobs (round_left places)
  unfolding start_conductor
  rounds_start = times_more (jobs - start.ledger.base) jobs (round_left places) (omega arith)

  looks_start : looks_left cut start ≤ times places places
  unfolding opening_cut
  looks_start = looks_most_left cut start

  -- in each iteration, and beside
  abbrev pub each_left : ℕ
  each_left = (work + work) + (times places (suc places) + round_left places)

  abbrev pub beside_left : ℕ
  beside_left = 1 + (4 * places + times places places)

  pub start_left : world_left s (opening_world s o) ≤ times jobs each_left + beside_left
  unfolding world_left opening_world
  start_left =
      let whole = world_few (is_some start.outcome) (going_left s (opening_world s o)) in
      let both = sum_append (slot_left s cut) (opening_slots s 0 s.nodes) (opening_slots s 1 s.nodes) in
      let one = slots_start 0 s.nodes in
      let two = slots_start 1 s.nodes in
      let work_is = nodes_work in
      let rounds_most_left = rounds_start in
      let looks = looks_start in
      let fours = times_add s.nodes s.nodes slot_work in
      let apart = times_plus places 4 (times jobs (suc places)) in
      let four = times_is places 4 ∙ mul_comm places 4 in
      let swap = times_swap places jobs (suc places) in
      let wide = times_plus jobs (work + work) (times places (suc places) + round_left places) in
      let works = times_plus jobs work work in
      let rest = times_plus jobs (times places (suc places)) (round_left places) in
      omega (arith, whole, both, one, two, work_is, rounds_most_left, looks, fours, apart, four, swap, wide, works, rest)
    where
      world_few : (b : Bool) (n : ℕ) → cond b 0 (suc n) ≤ suc n
      world_few true n = omega arith
      world_few false n = omega arith
