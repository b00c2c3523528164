-- A contribution that was gathered stays gathered, or all of them were sent on.
use Rattle.std.proofs.Common.{◌≡◌, ℕ, zero, suc, ◌<◌, ◌≤◌, inl, inr, ℤ, Bool, true, false, cond, List, [], ◌∷◌, length, refl, ap, sym, ◌∙◌, arith, subst, Option, Some, None, IsSome}
use Rattle.std.specs.Prelude.{◌⊎◌, ◌&&◌, ◌==◌, nat_lt, is_none, slice_set, slice_index_or}
use Rattle.std.specs.List.{AllByRecursion}
use Rattle.std.proofs.lemmas.Bool.{eqb-true}
use Rattle.std.proofs.lemmas.Bool.Decides.{nat_tests}
use Rattle.chare_base.specs.declared.message.ReductionId.{ReductionId}
use Rattle.object_steps.specs.Partial.{given_at, whole, with_given}
use Rattle.node_core.specs.Gatherings.{Gathering, Tallied, counted, gathering_of, given_to, is_of, settled, settled_by, with_first}
use Rattle.node_core.specs.Mail.{Given, given_in, reduction_id}
use Rattle.node_core.proofs.Turning.{first, second}

-- ---- one member's number

set_keeps : (given : List (Option ℤ)) (rank i : ℕ) (v : ℤ) → IsSome (slice_index_or given i None) → IsSome (slice_index_or (slice_set given rank (Some v)) i None)
set_keeps [] rank i v h = h
set_keeps (x ∷ more) zero zero v h = refl
set_keeps (x ∷ more) zero (suc i) v h = h
set_keeps (x ∷ more) (suc rank) zero v h = h
set_keeps (x ∷ more) (suc rank) (suc i) v h = set_keeps more rank i v h

set_own : (given : List (Option ℤ)) (rank : ℕ) (v : ℤ) → rank < length given → IsSome (slice_index_or (slice_set given rank (Some v)) rank None)
set_own [] rank v h = absurd (omega (arith, h))
set_own (x ∷ more) zero v h = refl
set_own (x ∷ more) (suc rank) v h = set_own more rank v (omega (arith, h))

abbrev given_as : Bool → ℕ → ℤ → Gathering → Gathering
given_as b rank v g = cond b (record { reduction = g.reduction; iteration = g.iteration; gathered = with_given g.gathered rank v }) g

given_keeps : (rank i : ℕ) (v : ℤ) (g : Gathering) → IsSome (given_at g.gathered.given i) → IsSome (given_at (given_to rank v g).gathered.given i)
given_keeps rank i v g h = by (nat_lt rank (length g.gathered.given) && is_none (given_at g.gathered.given rank))
  where
    by : (b : Bool) → IsSome (given_at (given_as b rank v g).gathered.given i)
    by true = set_keeps g.gathered.given rank i v h
    by false = h

given_own : (rank : ℕ) (v : ℤ) (g : Gathering) → rank < length g.gathered.given → IsSome (given_at (given_to rank v g).gathered.given rank)
given_own rank v g h = by (nat_lt rank (length g.gathered.given)) (is_none (given_at g.gathered.given rank)) refl refl
  where
    some : (o : Option ℤ) → is_none o ≡ false → IsSome o
    some None q = absurd (let e : true ≡ false = q in cc)
    some (Some y) q = refl

    by : (a b : Bool) → nat_lt rank (length g.gathered.given) ≡ a → is_none (given_at g.gathered.given rank) ≡ b → IsSome (given_at (given_as (a && b) rank v g).gathered.given rank)
    by true true ha hb = set_own g.gathered.given rank v h
    by true false ha hb = some (given_at g.gathered.given rank) hb
    by false b ha hb = absurd (let n : length g.gathered.given ≤ rank = grind (arith, nat_tests, ha) in omega (arith, n, h))

same_key : (r : ReductionId) (k rank : ℕ) (v : ℤ) (g : Gathering) → is_of r k (given_to rank v g) ≡ is_of r k g
same_key r k rank v g = by (nat_lt rank (length g.gathered.given) && is_none (given_at g.gathered.given rank))
  where
    by : (b : Bool) → is_of r k (given_as b rank v g) ≡ is_of r k g
    by true = refl
    by false = refl

-- ---- the list

abbrev found_as : Bool → Gathering → ReductionId → ℕ → List Gathering → Option Gathering
found_as b g r k more = cond b (Some g) (gathering_of r k more)

abbrev Shown : Option Gathering → ℕ → Type 0
Shown o i = IsSome (given_in o i)

-- what is settled shows what was there, or is sent on
settled_stays : (g : Gathering) (more : List Gathering) (r k i : ℕ) (b : Bool) → is_of (reduction_id r) k g ≡ b → Shown (found_as b g (reduction_id r) k more) i →
    Given (settled g more).gatherings r k i ⊎ ((b ≡ true) × IsSome (settled g more).total)
settled_stays g more r k i b is h = by (whole g.gathered) b is h
  where
    by : (o : Option ℤ) (c : Bool) → is_of (reduction_id r) k g ≡ c → Shown (found_as c g (reduction_id r) k more) i → Given (settled_by o g more).gatherings r k i ⊎ ((c ≡ true) × IsSome (settled_by o g more).total)
    by None c q s = inl (subst (λ d. Shown (found_as d g (reduction_id r) k more) i) (sym q) s)
    by (Some t) true q s = inr (refl, refl)
    by (Some t) false q s = inl s

-- the keys of two that one gathering has
pub record SameKey (r k : ℕ) (new : Gathering) : Type 0 where
  pub reduction : new.reduction.0 ≡ r
  pub iteration : new.iteration ≡ k

one_key : (r k : ℕ) (new g : Gathering) → is_of new.reduction new.iteration g ≡ true → is_of (reduction_id r) k g ≡ true → SameKey r k new
one_key r k new g a b = record {
  reduction = sym (eqb-true g.reduction.0 new.reduction.0 (first (g.reduction.0 == new.reduction.0) (g.iteration == new.iteration) a)) ∙ eqb-true g.reduction.0 r (first (g.reduction.0 == r) (g.iteration == k) b);
  iteration = sym (eqb-true g.iteration new.iteration (second (g.reduction.0 == new.reduction.0) (g.iteration == new.iteration) a)) ∙ eqb-true g.iteration k (second (g.reduction.0 == r) (g.iteration == k) b);
}

abbrev counted_as : Bool → Gathering → ℕ → ℤ → Gathering → List Gathering → Tallied
counted_as b new rank v g more = cond b (settled (given_to rank v g) more) (with_first g (counted new rank v more))

pub counted_stays : (new : Gathering) (rank : ℕ) (v : ℤ) (all : List Gathering) (r k i : ℕ) → Given all r k i → Given (counted new rank v all).gatherings r k i ⊎ (SameKey r k new × IsSome (counted new rank v all).total)
counted_stays new rank v [] r k i h = absurd (let e : false ≡ true = h in cc)
counted_stays new rank v (g ∷ more) r k i h = by (is_of new.reduction new.iteration g) (is_of (reduction_id r) k g) refl refl h (counted_stays new rank v more r k i)
  where
    shown : (c : Bool) → Shown (found_as c g (reduction_id r) k more) i → Shown (found_as c (given_to rank v g) (reduction_id r) k more) i
    shown true s = given_keeps rank i v g s
    shown false s = s

    by : (b c : Bool) → is_of new.reduction new.iteration g ≡ b → is_of (reduction_id r) k g ≡ c → Shown (found_as c g (reduction_id r) k more) i →
        (Given more r k i → Given (counted new rank v more).gatherings r k i ⊎ (SameKey r k new × IsSome (counted new rank v more).total)) →
        Given (counted_as b new rank v g more).gatherings r k i ⊎ (SameKey r k new × IsSome (counted_as b new rank v g more).total)
    by true c hb hc s rest = mine (settled_stays (given_to rank v g) more r k i c (same_key (reduction_id r) k rank v g ∙ hc) (shown c s))
      where
        mine : (Given (settled (given_to rank v g) more).gatherings r k i ⊎ ((c ≡ true) × IsSome (settled (given_to rank v g) more).total)) →
            Given (settled (given_to rank v g) more).gatherings r k i ⊎ (SameKey r k new × IsSome (settled (given_to rank v g) more).total)
        mine (inl q) = inl q
        mine (inr q) = inr (one_key r k new g hb (hc ∙ q.0), q.1)
    by false true hb hc s rest = inl (subst (λ d. Shown (found_as d g (reduction_id r) k (counted new rank v more).gatherings) i) (sym hc) s)
    by false false hb hc s rest = mine (rest s)
      where
        mine : (Given (counted new rank v more).gatherings r k i ⊎ (SameKey r k new × IsSome (counted new rank v more).total)) →
            Given (g ∷ (counted new rank v more).gatherings) r k i ⊎ (SameKey r k new × IsSome (counted new rank v more).total)
        mine (inl q) = inl (subst (λ d. Shown (found_as d g (reduction_id r) k (counted new rank v more).gatherings) i) (sym hc) q)
        mine (inr q) = inr q

-- ---- the member's own

-- a gathering of the key has a place for the member
abbrev pub Long : Gathering → ℕ → Gathering → Type 0
Long new rank g = is_of new.reduction new.iteration g ≡ true → rank < length g.gathered.given

own_settled : (r k rank : ℕ) (v : ℤ) (g : Gathering) (more : List Gathering) → is_of (reduction_id r) k g ≡ true → rank < length g.gathered.given →
    Given (settled (given_to rank v g) more).gatherings r k rank ⊎ IsSome (settled (given_to rank v g) more).total
own_settled r k rank v g more of there = mine (settled_stays (given_to rank v g) more r k rank true (same_key (reduction_id r) k rank v g ∙ of) (given_own rank v g there))
  where
    mine : (Given (settled (given_to rank v g) more).gatherings r k rank ⊎ ((true ≡ true) × IsSome (settled (given_to rank v g) more).total)) →
        Given (settled (given_to rank v g) more).gatherings r k rank ⊎ IsSome (settled (given_to rank v g) more).total
    mine (inl q) = inl q
    mine (inr q) = inr q.1

pub counted_own : (r k rank : ℕ) (v : ℤ) (new : Gathering) (all : List Gathering) → new.reduction ≡ reduction_id r → new.iteration ≡ k → is_of (reduction_id r) k new ≡ true → rank < length new.gathered.given →
    AllByRecursion (Long new rank) all → Given (counted new rank v all).gatherings r k rank ⊎ IsSome (counted new rank v all).total
counted_own r k rank v new [] re ke of there long = own_settled r k rank v new [] of there
counted_own r k rank v new (g ∷ more) re ke of there long = by (is_of new.reduction new.iteration g) refl (counted_own r k rank v new more re ke of there long.1)
  where
    same : is_of new.reduction new.iteration g ≡ is_of (reduction_id r) k g
    same = ap (λ (q : ReductionId). is_of q new.iteration g) re ∙ ap (λ n. is_of (reduction_id r) n g) ke

    by : (b : Bool) → is_of new.reduction new.iteration g ≡ b → (Given (counted new rank v more).gatherings r k rank ⊎ IsSome (counted new rank v more).total) →
        Given (counted_as b new rank v g more).gatherings r k rank ⊎ IsSome (counted_as b new rank v g more).total
    by true hb rest = own_settled r k rank v g more (sym same ∙ hb) (long.0 hb)
    by false hb (inl q) = inl (subst (λ d. Shown (found_as d g (reduction_id r) k (counted new rank v more).gatherings) rank) (sym (sym same ∙ hb)) q)
    by false hb (inr q) = inr q
