-- What the elements of a plan send in an iteration: no more than they receive.
use Rattle.std.proofs.Common.{◌≡◌, ℕ, zero, suc, ◌+◌, ◌*◌, ◌-◌, ◌<◌, ◌≤◌, inl, inr, Bool, true, false, cond, List, [], ◌∷◌, refl, ap, sym, ◌∙◌, arith, subst, Option, Some, None}
use Rattle.std.specs.Prelude.{◌==◌, ◌&&◌, nat_le, nat_lt, slice_get}
use Rattle.std.specs.List.{AllByRecursion}
use Rattle.std.proofs.lemmas.Bool.{eq-eqb, eqb-true, leb-true, ltb-true}
use Rattle.std.proofs.lemmas.Bool.Decides.{nat_tests}
use Rattle.chare_base.specs.declared.message.Port.{Port}
use Rattle.chare_base.specs.declared.plan.Entry.{Entry}
use Rattle.chare_base.specs.declared.plan.Part.{Part}
use Rattle.chare_base.specs.declared.plan.Place.{Place}
use Rattle.chare_base.specs.declared.plan.Plan.{Plan}
use Rattle.chare_base.specs.declared.plan.Step.{Step}
use Rattle.chare_base.specs.declared.plan.Stmt.{Stmt, out-Stmt}
use Rattle.chare_base.specs.Elements.{elements, place_of}
use Rattle.chare_base.specs.Entries.{cols_of, first_of, rows_of}
use Rattle.chare_base.specs.Ports.{block_sends, counted, fed_by, parts_send, steps_send}
use Rattle.chare_base.proofs.Exchanges.{Pair, Stands, pair}
use Rattle.chare_base.proofs.Neighbours.{element_is, place_is, place_within}
use Rattle.chare_base.proofs.Sendings.{counted_own}
use Rattle.node_core.specs.Costs.{sum, times}
use Rattle.node_core.specs.Mail.{In}
use Rattle.world_core.specs.Bounds.{entries_of}
use Rattle.world_core.proofs.Weights.{sum_same}

-- ---- sums of numbers below one

abbrev pub sum_below : (ℕ → ℕ) → ℕ → ℕ
sum_below f zero = 0
sum_below f (suc n) = sum_below f n + f n

pub below_add : (f g : ℕ → ℕ) (n : ℕ) → sum_below (λ e. f e + g e) n ≡ sum_below f n + sum_below g n
below_add f g zero = refl
below_add f g (suc n) = let rest = below_add f g n in omega (arith, rest)

pub below_most : (f g : ℕ → ℕ) (n : ℕ) → ((e : ℕ) → e < n → f e ≤ g e) → sum_below f n ≤ sum_below g n
below_most f g zero most = omega arith
below_most f g (suc n) most = let rest = below_most f g n (λ e less. most e (omega (arith, less))) in let here = most n (omega arith) in omega (arith, rest, here)

pub below_same : (f g : ℕ → ℕ) (n : ℕ) → ((e : ℕ) → e < n → f e ≡ g e) → sum_below f n ≡ sum_below g n
below_same f g zero same = refl
below_same f g (suc n) same = let rest = below_same f g n (λ e less. same e (omega (arith, less))) in let here = same n (omega arith) in omega (arith, rest, here)

-- ---- elements of an array

abbrev pub one_if : Bool → ℕ
one_if b = cond b 1 0

-- size numbers lie within a range of this size
in_range : (first size n : ℕ) → first + size ≤ n → sum_below (λ e. one_if (nat_le first e && nat_lt e (first + size))) n ≡ size
in_range first size n = by n
  where
    some : (m : ℕ) → m ≤ first → sum_below (λ e. one_if (nat_le first e && nat_lt e (first + size))) m ≡ 0
    some zero few = refl
    some (suc m) few =
        let rest = some m (omega (arith, few)) in
        let here : one_if (nat_le first m && nat_lt m (first + size)) ≡ 0 = outside (nat_le first m) (grind (arith, nat_tests, few)) in
        omega (arith, rest, here)
      where
        outside : (b : Bool) → b ≡ false → one_if (b && nat_lt m (first + size)) ≡ 0
        outside false h = refl
        outside true h = absurd (let q : true ≡ false = h in cc)

    inside : (k : ℕ) → k ≤ size → sum_below (λ e. one_if (nat_le first e && nat_lt e (first + size))) (first + k) ≡ k
    inside zero few = let at : first + 0 ≡ first = omega arith in ap (sum_below (λ e. one_if (nat_le first e && nat_lt e (first + size)))) at ∙ some first (omega arith)
    inside (suc k) few =
        let at : first + suc k ≡ suc (first + k) = omega arith in
        let rest = inside k (omega (arith, few)) in
        let here : one_if (nat_le first (first + k) && nat_lt (first + k) (first + size)) ≡ 1 = within (nat_le first (first + k)) (nat_lt (first + k) (first + size)) (grind (arith, nat_tests)) (grind (arith, nat_tests, few)) in
        let step : sum_below (λ e. one_if (nat_le first e && nat_lt e (first + size))) (suc (first + k)) ≡ suc k = omega (arith, rest, here) in
        ap (sum_below (λ e. one_if (nat_le first e && nat_lt e (first + size)))) at ∙ step
      where
        within : (a b : Bool) → a ≡ true → b ≡ true → one_if (a && b) ≡ 1
        within true true ha hb = refl
        within false b ha hb = absurd (let q : false ≡ true = ha in cc)
        within true false ha hb = absurd (let q : false ≡ true = hb in cc)

    beyond : (k : ℕ) → sum_below (λ e. one_if (nat_le first e && nat_lt e (first + size))) (first + size + k) ≡ size
    beyond zero = let at : first + size + 0 ≡ first + size = omega arith in ap (sum_below (λ e. one_if (nat_le first e && nat_lt e (first + size)))) at ∙ inside size (omega arith)
    beyond (suc k) =
        let at : first + size + suc k ≡ suc (first + size + k) = omega arith in
        let rest = beyond k in
        let here : one_if (nat_le first (first + size + k) && nat_lt (first + size + k) (first + size)) ≡ 0 = outside (nat_le first (first + size + k)) (nat_lt (first + size + k) (first + size)) (grind (arith, nat_tests)) in
        let step : sum_below (λ e. one_if (nat_le first e && nat_lt e (first + size))) (suc (first + size + k)) ≡ size = omega (arith, rest, here) in
        ap (sum_below (λ e. one_if (nat_le first e && nat_lt e (first + size)))) at ∙ step
      where
        outside : (a b : Bool) → b ≡ false → one_if (a && b) ≡ 0
        outside true false h = refl
        outside false b h = refl
        outside true true h = absurd (let q : true ≡ false = h in cc)

    by : (n : ℕ) → first + size ≤ n → sum_below (λ e. one_if (nat_le first e && nat_lt e (first + size))) n ≡ size
    by n few = let at : n ≡ first + size + (n - (first + size)) = omega (arith, few) in ap (sum_below (λ e. one_if (nat_le first e && nat_lt e (first + size)))) at ∙ beyond (n - (first + size))

module _ (p : Plan) where
  abbrev pub array_at : ℕ → ℕ
  array_at e = (place_of p e).array

  abbrev size_at : ℕ → ℕ
  size_at a = rows_of p.arrays a * cols_of p.arrays a

  -- an element is of an array where its number lies in the array's range
  array_test : (a e : ℕ) → e < elements p → (a == array_at e) ≡ (nat_le (first_of p.arrays a) e && nat_lt e (first_of p.arrays a + size_at a))
  array_test a e few = by (a == array_at e) refl
    where
      its : first_of p.arrays (array_at e) + (place_of p e).index ≡ e
      its = element_is p e few

      inside : (place_of p e).index < size_at (array_at e)
      inside = place_within p e few

      both : (x y : Bool) → x ≡ true → y ≡ true → true ≡ (x && y)
      both true true hx hy = refl
      both false y hx hy = absurd (let q : false ≡ true = hx in cc)
      both true false hx hy = absurd (let q : false ≡ true = hy in cc)

      by : (b : Bool) → (a == array_at e) ≡ b → b ≡ (nat_le (first_of p.arrays a) e && nat_lt e (first_of p.arrays a + size_at a))
      by true is =
          let same : a ≡ array_at e = eqb-true a (array_at e) is in
          let at : first_of p.arrays a + (place_of p e).index ≡ e = ap (λ m. first_of p.arrays m + (place_of p e).index) same ∙ its in
          let less : (place_of p e).index < size_at a = subst (λ m. (place_of p e).index < size_at m) (sym same) inside in
          both (nat_le (first_of p.arrays a) e) (nat_lt e (first_of p.arrays a + size_at a)) (grind (arith, nat_tests, at)) (grind (arith, nat_tests, at, less))
      by false is = test (nat_le (first_of p.arrays a) e) (nat_lt e (first_of p.arrays a + size_at a)) refl refl
        where
          test : (x y : Bool) → nat_le (first_of p.arrays a) e ≡ x → nat_lt e (first_of p.arrays a + size_at a) ≡ y → false ≡ (x && y)
          test false y hx hy = refl
          test true false hx hy = refl
          test true true hx hy =
              let low : first_of p.arrays a ≤ e = leb-true (first_of p.arrays a) e hx in
              let high : e < first_of p.arrays a + size_at a = ltb-true e (first_of p.arrays a + size_at a) hy in
              let at : first_of p.arrays a + (e - first_of p.arrays a) ≡ e = omega (arith, low) in
              let place : array_at e ≡ a = ap (λ m. (place_of p m).array) (sym at) ∙ ap (λ (q : Place). q.array) (place_is p a (e - first_of p.arrays a) (omega (arith, low, high))) in
              absurd (let q : true ≡ false = sym (eq-eqb a (array_at e) (sym place)) ∙ is in cc)

  -- so an array has as many elements as its size
  pub array_count : (a : ℕ) → Stands p.arrays a → sum_below (λ e. one_if (a == array_at e)) (elements p) ≡ size_at a
  array_count a stands =
      below_same (λ e. one_if (a == array_at e)) (λ e. one_if (nat_le (first_of p.arrays a) e && nat_lt e (first_of p.arrays a + size_at a))) (elements p) (λ e few. ap one_if (array_test a e few))
      ∙ in_range (first_of p.arrays a) (size_at a) (elements p) stands.fits

  -- ---- entries by their sources, and by their owners

  abbrev pub sources_of : ℕ → List Entry → ℕ
  sources_of array [] = 0
  sources_of array (entry ∷ more) = one_if (entry.source == array) + sources_of array more

  -- as many messages are sent in an iteration as are received
  sent_as_received : (xs : List Entry) → ((n : ℕ) (x : Entry) → slice_get xs n ≡ Some x → Pair p.arrays x) → sum_below (λ e. sources_of (array_at e) xs) (elements p) ≡ sum_below (λ e. entries_of (array_at e) xs) (elements p)
  sent_as_received [] pairs = refl
  sent_as_received (x ∷ more) pairs =
      let its : Pair p.arrays x = pairs 0 x refl in
      let rest = sent_as_received more (λ n y there. pairs (suc n) y there) in
      let sources = below_add (λ e. one_if (x.source == array_at e)) (λ e. sources_of (array_at e) more) (elements p) in
      let owners = below_add (λ e. one_if (x.owner == array_at e)) (λ e. entries_of (array_at e) more) (elements p) in
      let one = array_count x.source its.source in
      let two = array_count x.owner its.owner in
      let same : size_at x.owner ≡ size_at x.source = ap (λ m. m * cols_of p.arrays x.owner) its.rows ∙ ap (λ m. rows_of p.arrays x.source * m) its.cols in
      omega (arith, rest, sources, owners, one, two, same)

  pub all_sent : sum_below (λ e. sources_of (array_at e) p.entries) (elements p) ≡ sum_below (λ e. entries_of (array_at e) p.entries) (elements p)
  all_sent = sent_as_received p.entries (λ n x there. pair p n x there)

-- ---- what is sent, weighed by port

pub times_add : (a b r : ℕ) → times (a + b) r ≡ times a r + times b r
times_add zero b r = let at : 0 + b ≡ b = omega arith in ap (λ n. times n r) at ∙ zero_more (times b r)
  where
    zero_more : (n : ℕ) → n ≡ 0 + n
    zero_more n = omega arith
times_add (suc a) b r = let at : suc a + b ≡ suc (a + b) = omega arith in ap (λ n. times n r) at ∙ more (times (a + b) r) (times a r) (times b r) (times_add a b r)
  where
    more : (x y z : ℕ) → x ≡ y + z → r + x ≡ r + y + z
    more x y z h = omega (arith, h)

sum_add : {A : Type 0} (f g : A → ℕ) (xs : List A) → sum (λ x. f x + g x) xs ≡ sum f xs + sum g xs
sum_add f g [] = refl
sum_add f g (x ∷ xs) = let rest = sum_add f g xs in omega (arith, rest)

module _ (v : Port → ℕ) where
  -- what a port weighs, where there is one
  abbrev pub port_weight : Option Port → ℕ
  port_weight None = 0
  port_weight (Some port) = v port

  abbrev pub block_weight : List Stmt → ℕ
  block_weight block = sum (λ stmt. port_weight (fed_by (out-Stmt stmt))) block

  abbrev pub parts_weight : List Part → ℕ
  parts_weight parts = sum (λ (part : Part). block_weight part.block) parts

  abbrev pub steps_weight : List Step → ℕ
  steps_weight steps = sum (λ (step : Step). parts_weight step.parts) steps

  module _ (all : List Port) where
    -- all ports of a list, each as often as it is counted
    abbrev by_port : (Port → ℕ) → ℕ
    by_port count = sum (λ port. times (count port) (v port)) all

    by_sum : (f g : Port → ℕ) → by_port (λ port. f port + g port) ≡ by_port f + by_port g
    by_sum f g = sum_same (λ port. times (f port + g port) (v port)) (λ port. times (f port) (v port) + times (g port) (v port)) all (λ m port there. times_add (f port) (g port) (v port)) ∙ sum_add (λ port. times (f port) (v port)) (λ port. times (g port) (v port)) all

    one_port : (xs : List Port) (port : Port) → In port xs → v port ≤ sum (λ other. times (counted other (Some port)) (v other)) xs
    one_port [] port h = absurd h
    one_port (x ∷ more) port (inl same) =
        let own : times (counted x (Some port)) (v x) ≡ v port = ap (λ q. times (counted x (Some q)) (v x)) same ∙ ap (λ n. times n (v x)) (counted_own x) ∙ once (v x) ∙ ap v (sym same) in
        omega (arith, own)
      where
        once : (n : ℕ) → times 1 n ≡ n
        once n = omega arith
    one_port (x ∷ more) port (inr h) = let rest = one_port more port h in omega (arith, rest)

    -- a port that is fed is one of these
    abbrev pub FedIn : Option Port → Type 0
    FedIn None = Unit {0}
    FedIn (Some port) = In port all

    fed_weight : (o : Option Port) → FedIn o → port_weight o ≤ by_port (λ port. counted port o)
    fed_weight None h = omega arith
    fed_weight (Some port) h = one_port all port h

    abbrev pub BlockIn : List Stmt → Type 0
    BlockIn block = AllByRecursion (λ stmt. FedIn (fed_by (out-Stmt stmt))) block

    abbrev pub StepIn : List Part → Type 0
    StepIn parts = AllByRecursion (λ (part : Part). BlockIn part.block) parts

    block_most : (block : List Stmt) → BlockIn block → block_weight block ≤ by_port (λ port. block_sends port block)
    block_most [] h = omega arith
    block_most (stmt ∷ more) h =
        let here = fed_weight (fed_by (out-Stmt stmt)) h.0 in
        let rest = block_most more h.1 in
        let both = by_sum (λ port. counted port (fed_by (out-Stmt stmt))) (λ port. block_sends port more) in
        omega (arith, here, rest, both)

    parts_most : (parts : List Part) → StepIn parts → parts_weight parts ≤ by_port (λ port. parts_send port parts)
    parts_most [] h = omega arith
    parts_most (part ∷ more) h =
        let here = block_most part.block h.0 in
        let rest = parts_most more h.1 in
        let both = by_sum (λ port. block_sends port part.block) (λ port. parts_send port more) in
        omega (arith, here, rest, both)

    pub steps_most : (steps : List Step) → AllByRecursion (λ (step : Step). StepIn step.parts) steps → steps_weight steps ≤ by_port (λ port. steps_send port steps)
    steps_most [] h = omega arith
    steps_most (step ∷ more) h =
        let here = parts_most step.parts h.0 in
        let rest = steps_most more h.1 in
        let both = by_sum (λ port. parts_send port step.parts) (λ port. steps_send port more) in
        omega (arith, here, rest, both)
