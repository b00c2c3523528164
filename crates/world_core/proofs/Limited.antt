-- How wide a plan's elements are at most.
use Rattle.std.proofs.Common.{◌≡◌, ℕ, zero, suc, ◌+◌, ◌*◌, ◌<◌, ◌≤◌, Bool, true, false, cond, List, [], ◌∷◌, length, refl, arith, subst, Option, Some, None}
use Rattle.std.specs.Prelude.{◌==◌, slice_get}
use Rattle.std.proofs.Math.Nat.{mul-pos}
use Rattle.std.proofs.lemmas.Bool.{and_parts, eqb-true, leb-true}
use Rattle.chare_base.specs.declared.plan.Array.{Array}
use Rattle.chare_base.specs.declared.plan.Entry.{Entry}
use Rattle.chare_base.specs.declared.plan.Plan.{Plan}
use Rattle.chare_base.specs.declared.plan.Reduction.{Reduction}
use Rattle.chare_base.specs.declared.plan.Step.{Step}
use Rattle.chare_base.specs.Elements.{array_of, elements, parts_at, steps_of}
use Rattle.chare_base.specs.Entries.{cols_of, rows_of}
use Rattle.chare_base.specs.Limits.{ports_fit, step_fits}
use Rattle.chare_base.specs.Limits as limits
use Rattle.chare_base.proofs.Exchanges.{Stands, members}
use Rattle.chare_base.proofs.Facts.{each_at, elements_few, fits, members_held, within}
use Rattle.chare_base.proofs.Sendings.{step_parts, steps_at}
use Rattle.world_core.specs.Bounds.{entries_of, parts_below, reductions_of, width_below, width_of}
use Rattle.world_core.proofs.StartLeft.{below_const, times_is}
use Rattle.world_core.proofs.Widths.{array_at, array_count, below_add, below_most, one_if, sum_below}
use Rattle.world_core.proofs.RoundCosts.{below_is, width_is}

-- ---- parts of an element's steps

module _ (p : Plan) (e : ℕ) where
  parts_few : (s : ℕ) → length (parts_at p e s) ≤ 8
  parts_few s = by (array_of p e) refl
    where
      of_step : (a : Array) → array_of p e ≡ Some a → (q : Option Step) → slice_get a.steps s ≡ q → length (step_parts q) ≤ 8
      of_step a is None at = omega arith
      of_step a is (Some step) at = (within 1 8 (length step.parts) (each_at step_fits a.steps s step (fits p e a is).each_step at)).1

      by : (o : Option Array) → array_of p e ≡ o → length (step_parts (slice_get (steps_at o) s)) ≤ 8
      by None is = omega arith
      by (Some a) is = of_step a is (slice_get a.steps s) refl

  steps_few : length (steps_of p e) ≤ 32
  steps_few = by (array_of p e) refl
    where
      by : (o : Option Array) → array_of p e ≡ o → length (steps_at o) ≤ 32
      by None is = omega arith
      by (Some a) is = (fits p e a is).steps.1

  all_parts_few : parts_below p e (length (steps_of p e)) ≤ 256
  all_parts_few =
      let is = below_is p e (length (steps_of p e)) in
      let most = below_most (λ s. length (parts_at p e s)) (λ s. 8) (length (steps_of p e)) (λ s less. parts_few s) in
      let const = below_const 8 (length (steps_of p e)) in
      let product = times_is (length (steps_of p e)) 8 in
      let few = steps_few in
      omega (arith, is, most, const, product, few)

-- ---- entries and reductions of an array

entries_same : (a : ℕ) (xs : List Entry) → limits.entries_of a xs ≡ entries_of a xs
entries_same a [] = refl
entries_same a (x ∷ more) = by (x.owner == a) (entries_same a more)
  where
    by : (b : Bool) → limits.entries_of a more ≡ entries_of a more → cond b (suc (limits.entries_of a more)) (limits.entries_of a more) ≡ cond b 1 0 + entries_of a more
    by true rest = omega (arith, rest)
    by false rest = omega (arith, rest)

reductions_same : (a : ℕ) (xs : List Reduction) → limits.reductions_of a xs ≡ reductions_of a xs
reductions_same a [] = refl
reductions_same a (x ∷ more) = by (x.owner == a) (reductions_same a more)
  where
    by : (b : Bool) → limits.reductions_of a more ≡ reductions_of a more → cond b (suc (limits.reductions_of a more)) (limits.reductions_of a more) ≡ cond b 1 0 + reductions_of a more
    by true rest = omega (arith, rest)
    by false rest = omega (arith, rest)

-- an array that has one is the owner of one
entry_owned : (a : ℕ) (xs : List Entry) → 0 < entries_of a xs → (m : ℕ) × (y : Entry) × (slice_get xs m ≡ Some y) × (y.owner ≡ a)
entry_owned a [] h = absurd (omega (arith, h))
entry_owned a (x ∷ more) h = by (x.owner == a) refl h (entry_owned a more)
  where
    by : (b : Bool) → (x.owner == a) ≡ b → 0 < cond b 1 0 + entries_of a more → (0 < entries_of a more → (m : ℕ) × (y : Entry) × (slice_get more m ≡ Some y) × (y.owner ≡ a)) → (m : ℕ) × (y : Entry) × (slice_get (x ∷ more) m ≡ Some y) × (y.owner ≡ a)
    by true is h rest = (0, x, refl, eqb-true x.owner a is)
    by false is h rest = let r = rest (omega (arith, h)) in (suc r.0, r.1, r.2, r.3)

reduction_owned : (a : ℕ) (xs : List Reduction) → 0 < reductions_of a xs → (m : ℕ) × (y : Reduction) × (slice_get xs m ≡ Some y) × (y.owner ≡ a)
reduction_owned a [] h = absurd (omega (arith, h))
reduction_owned a (x ∷ more) h = by (x.owner == a) refl h (reduction_owned a more)
  where
    by : (b : Bool) → (x.owner == a) ≡ b → 0 < cond b 1 0 + reductions_of a more → (0 < reductions_of a more → (m : ℕ) × (y : Reduction) × (slice_get more m ≡ Some y) × (y.owner ≡ a)) → (m : ℕ) × (y : Reduction) × (slice_get (x ∷ more) m ≡ Some y) × (y.owner ≡ a)
    by true is h rest = (0, x, refl, eqb-true x.owner a is)
    by false is h rest = let r = rest (omega (arith, h)) in (suc r.0, r.1, r.2, r.3)

module _ (p : Plan) where
  ports_few : (a : ℕ) → entries_of a p.entries + reductions_of a p.reductions ≤ 16
  ports_few a = by (entries_of a p.entries) (reductions_of a p.reductions) refl refl
    where
      fit : ports_fit p.entries p.reductions a ≡ true → entries_of a p.entries + reductions_of a p.reductions ≤ 16
      fit h =
          let few = leb-true (limits.entries_of a p.entries + limits.reductions_of a p.reductions) 16 h in
          let entries = entries_same a p.entries in
          let reductions = reductions_same a p.reductions in
          omega (arith, few, entries, reductions)

      by : (n m : ℕ) → entries_of a p.entries ≡ n → reductions_of a p.reductions ≡ m → entries_of a p.entries + reductions_of a p.reductions ≤ 16
      by (suc n) m hn hm =
          let q = entry_owned a p.entries (omega (arith, hn)) in
          let all = and_parts _ _ (members_held p) in
          fit (subst (λ b. ports_fit p.entries p.reductions b ≡ true) q.3 (each_at (λ (y : Entry). ports_fit p.entries p.reductions y.owner) p.entries q.0 q.1 (and_parts _ _ all.0).1 q.2))
      by zero (suc m) hn hm =
          let q = reduction_owned a p.reductions (omega (arith, hm)) in
          let all = and_parts _ _ (members_held p) in
          fit (subst (λ b. ports_fit p.entries p.reductions b ≡ true) q.3 (each_at (λ (y : Reduction). ports_fit p.entries p.reductions y.owner) p.reductions q.0 q.1 all.1 q.2))
      by zero zero hn hm = omega (arith, hn, hm)

  width_few : (e : ℕ) → width_of p e ≤ 272
  unfolding width_of
  width_few e = let parts = all_parts_few p e in let ports = ports_few (array_at p e) in omega (arith, parts, ports)

  pub widths_few : width_below p (elements p) ≤ 1114112
  widths_few =
      let is = width_is p (elements p) in
      let most = below_most (width_of p) (λ e. 272) (elements p) (λ e less. width_few e) in
      let const = below_const 272 (elements p) in
      let product = times_is (elements p) 272 in
      let few = elements_few p in
      omega (arith, is, most, const, product, few)

  -- each reduction has an element
  reductions_few : (xs : List Reduction) → ((m : ℕ) (y : Reduction) → slice_get xs m ≡ Some y → Stands p.arrays y.owner) → length xs ≤ sum_below (λ e. reductions_of (array_at p e) xs) (elements p)
  reductions_few [] stand = omega arith
  reductions_few (x ∷ more) stand =
      let its : Stands p.arrays x.owner = stand 0 x refl in
      let rest = reductions_few more (λ m y there. stand (suc m) y there) in
      let both = below_add (λ e. one_if (x.owner == array_at p e)) (λ e. reductions_of (array_at p e) more) (elements p) in
      let count = array_count p x.owner its in
      let some : 0 < rows_of p.arrays x.owner * cols_of p.arrays x.owner = mul-pos its.rows its.cols in
      omega (arith, rest, both, count, some)

  pub totals_few : length p.reductions ≤ width_below p (elements p)
  unfolding width_of
  totals_few =
      let few = reductions_few p.reductions (λ m y there. members p m y there) in
      let most = below_most (λ e. reductions_of (array_at p e) p.reductions) (width_of p) (elements p) (λ e less. omega arith) in
      let is = width_is p (elements p) in
      omega (arith, few, most, is)
