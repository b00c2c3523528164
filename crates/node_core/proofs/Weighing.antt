-- What gathering a contribution costs.
use Rattle.std.proofs.Common.{◌≡◌, ℕ, zero, suc, ◌+◌, ◌≤◌, ℤ, Bool, true, false, cond, List, [], ◌∷◌, length, refl, ap, arith, Option, Some, None}
use Rattle.std.specs.Prelude.{◌==◌, ◌&&◌, nat_lt, is_none, is_some, slice_set}
use Rattle.std.specs.List.{list_all}
use Rattle.std.proofs.lemmas.Bool.{eqb-true}
use Rattle.chare_base.specs.declared.message.ReductionId.{ReductionId}
use Rattle.chare_base.specs.declared.plan.How.{How}
use Rattle.object_steps.specs.Partial.{given_at, total_of, whole, with_given}
use Rattle.node_core.specs.Costs.{sum}
use Rattle.node_core.specs.Gatherings.{Gathering, Tallied, counted, gathering, given_to, is_of, settled, settled_by, tallied, with_first}
use Rattle.node_core.proofs.Turning.{first}

-- what is gathered weighs as much as its total will, once the first member's number is there
module _ (weigh : ℕ → ℕ) where
  abbrev pub kept_left : Gathering → ℕ
  kept_left g = cond (is_some (given_at g.gathered.given 0)) (weigh g.reduction.0) 0

  abbrev pub sent_left : ℕ → Option ℤ → ℕ
  sent_left r total = cond (is_some total) (weigh r) 0

  abbrev pub first_left : ℕ → ℕ → ℕ
  first_left r rank = cond (rank == 0) (weigh r) 0

  pub later_none : (r n : ℕ) → first_left r (suc n) ≡ 0
  later_none r n = by (suc n == 0) refl
    where
      by : (b : Bool) → (suc n == 0) ≡ b → cond b (weigh r) 0 ≡ 0
      by false is = refl
      by true is = absurd (let same = eqb-true (suc n) 0 is in omega (arith, same))

  abbrev pub Left : Tallied → ℕ → ℕ
  Left t r = sum kept_left t.gatherings + sent_left r t.total

  some_few : (b : Bool) (n : ℕ) → cond b n 0 ≤ n
  some_few true n = omega arith
  some_few false n = omega arith

  given_left : (rank : ℕ) (v : ℤ) (g : Gathering) → kept_left (given_to rank v g) ≤ kept_left g + first_left g.reduction.0 rank
  given_left rank v g = by (nat_lt rank (length g.gathered.given) && is_none (given_at g.gathered.given rank))
    where
      set : (given : List (Option ℤ)) (rank : ℕ) → cond (is_some (given_at (slice_set given rank (Some v)) 0)) (weigh g.reduction.0) 0 ≤ cond (is_some (given_at given 0)) (weigh g.reduction.0) 0 + first_left g.reduction.0 rank
      set [] rank = omega arith
      set (x ∷ more) zero = let few = some_few (is_some x) (weigh g.reduction.0) in omega arith
      set (x ∷ more) (suc n) = omega arith

      by : (b : Bool) → kept_left (cond b (record { reduction = g.reduction; iteration = g.iteration; gathered = with_given g.gathered rank v }) g) ≤ kept_left g + first_left g.reduction.0 rank
      by true = set g.gathered.given rank
      by false = omega arith

  -- what is whole has the first member's number
  whole_first : (how : How) (given : List (Option ℤ)) (b : Bool) (v : ℤ) → list_all is_some given ≡ b → cond b (total_of how given) None ≡ Some v → is_some (given_at given 0) ≡ true
  whole_first how given false v is h = absurd (let q : None ≡ Some v = h in cc)
  whole_first how [] true v is h = absurd (let q : None ≡ Some v = h in cc)
  whole_first how (Some x ∷ more) true v is h = refl
  whole_first how (None ∷ more) true v is h = absurd (let q : false ≡ true = is in cc)

  settled_left : (g : Gathering) (more : List Gathering) → Left (settled g more) g.reduction.0 ≤ kept_left g + sum kept_left more
  settled_left g more = by (whole g.gathered) refl
    where
      by : (o : Option ℤ) → whole g.gathered ≡ o → Left (settled_by o g more) g.reduction.0 ≤ kept_left g + sum kept_left more
      by None is = omega arith
      by (Some v) is =
          let there : kept_left g ≡ weigh g.reduction.0 = ap (λ b. cond b (weigh g.reduction.0) 0) (whole_first g.gathered.how g.gathered.given (list_all is_some g.gathered.given) v refl is) in
          omega (arith, there)

  -- into what is gathered already, of the same reduction
  given_settled : (r rank : ℕ) (v : ℤ) (g : Gathering) (more : List Gathering) → g.reduction.0 ≡ r → Left (settled (given_to rank v g) more) r ≤ kept_left g + sum kept_left more + first_left r rank
  given_settled r rank v g more same =
      let its : (given_to rank v g).reduction.0 ≡ r = stays (nat_lt rank (length g.gathered.given) && is_none (given_at g.gathered.given rank)) in
      let less = settled_left (given_to rank v g) more in
      let cost : sent_left (given_to rank v g).reduction.0 (settled (given_to rank v g) more).total ≡ sent_left r (settled (given_to rank v g) more).total = ap (λ n. sent_left n (settled (given_to rank v g) more).total) its in
      omega (arith, less, cost, given_left rank v g, ap (λ n. first_left n rank) same)
    where
      stays : (b : Bool) → (cond b (record { reduction = g.reduction; iteration = g.iteration; gathered = with_given g.gathered rank v }) g).reduction.0 ≡ r
      stays true = same
      stays false = same

  counted_left : (new : Gathering) (rank : ℕ) (v : ℤ) (all : List Gathering) → kept_left new ≡ 0 → Left (counted new rank v all) new.reduction.0 ≤ sum kept_left all + first_left new.reduction.0 rank
  counted_left new rank v [] none = omega (arith, given_settled new.reduction.0 rank v new [] refl, none)
  counted_left new rank v (g ∷ more) none = by (is_of new.reduction new.iteration g) refl (counted_left new rank v more none)
    where
      by : (b : Bool) → is_of new.reduction new.iteration g ≡ b → Left (counted new rank v more) new.reduction.0 ≤ sum kept_left more + first_left new.reduction.0 rank →
          Left (cond b (settled (given_to rank v g) more) (with_first g (counted new rank v more))) new.reduction.0 ≤ kept_left g + sum kept_left more + first_left new.reduction.0 rank
      by true is rest = given_settled new.reduction.0 rank v g more (eqb-true g.reduction.0 new.reduction.0 (first (g.reduction.0 == new.reduction.0) (g.iteration == new.iteration) is))
      by false is rest = omega (arith, rest)

  new_left : (how : How) (members : ℕ) (r : ReductionId) (k : ℕ) → kept_left (gathering how members r k) ≡ 0
  new_left how zero r k = refl
  new_left how (suc n) r k = refl

  pub tallied_left : (how : How) (members rank : ℕ) (r : ReductionId) (k : ℕ) (v : ℤ) (all : List Gathering) → Left (tallied how members rank r k v all) r.0 ≤ sum kept_left all + first_left r.0 rank
  unfolding tallied
  tallied_left how members rank r k v all = by (nat_lt rank members)
    where
      by : (b : Bool) → Left (cond b (counted (gathering how members r k) rank v all) (record { gatherings = all; total = None })) r.0 ≤ sum kept_left all + first_left r.0 rank
      by true = counted_left (gathering how members r k) rank v all (new_left how members r k)
      by false = omega arith
