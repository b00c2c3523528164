-- No part of a step uses a cell that another one writes.
use Rattle.std.proofs.Common.{◌≡◌, ℕ, zero, suc, ◌+◌, ◌<◌, ◌≤◌, Bool, true, false, List, [], ◌∷◌, map, refl, ap, sym, ◌∙◌, subst, arith, Option, Some, None}
use Rattle.std.specs.Prelude.{IsTrue, ◌||◌, not, if◌then◌else◌, nat_le, slice_get}
use Rattle.std.specs.List.{list_all, list_any}
use Rattle.std.proofs.lemmas.Bool.{and_parts, or_left, or_right, eqb-true}
use Rattle.std.proofs.lemmas.Option.{none-some, same_Some}
use Rattle.chare_base.specs.declared.plan.Array.{Array}
use Rattle.chare_base.specs.declared.plan.Part.{Part}
use Rattle.chare_base.specs.declared.plan.Plan.{Plan}
use Rattle.chare_base.specs.declared.plan.State.{State}
use Rattle.chare_base.specs.declared.plan.Step.{Step}
use Rattle.chare_base.specs.declared.range.Range.{Range}
use Rattle.chare_base.specs.Sizes.{cells_in}
use Rattle.chare_base.specs.Limits.{array_fits, state_fits}
use Rattle.chare_base.specs.Layout.{placed_from}
use Rattle.chare_base.specs.Ranges.{values_of}
use Rattle.chare_base.specs.Uses.{one, stmt_reads, any_of, uses, writes}
use Rattle.chare_base.specs.Overlap.{users, apart_on, state_range, parts_apart, array_apart, overlaps_hold}
use Rattle.chare_base.specs.Elements.{place_of, states_of, cells_of, parts_at}
use Rattle.chare_base.specs.Laws.{PartsAreApart, UsesAreWithin}
use Rattle.chare_base.proofs.Facts.{each_at, each_fits, fits_of, laid_out}
use Rattle.chare_base.proofs.Sendings.{steps_at, states_at, step_parts, part_block, fine, parts_ranged, part_fine}
use Rattle.chare_base.proofs.Covered.{Holds, Owned, block_writes_fair, block_uses_fair}

-- ---- counts

module _ (range : Range) where
  -- a part that uses a state is counted
  counted : (parts : List Part) (i : ℕ) (a : Part) → slice_get parts i ≡ Some a → uses a.block range ≡ true → 0 < users range parts
  counted [] i a e u = absurd (none-some a e)
  counted (p ∷ more) zero a e u =
      subst (λ b. 0 < (if b then suc (users range more) else users range more)) (sym (ap (λ (x : Part). uses x.block range) (same_Some p a e) ∙ u)) (omega arith)
  counted (p ∷ more) (suc i) a e u = at (uses p.block range) (counted more i a e u)
    where
      at : (b : Bool) → 0 < users range more → 0 < (if b then suc (users range more) else users range more)
      at true h = omega arith
      at false h = h

  two : (parts : List Part) (i j : ℕ) (a b : Part) → slice_get parts i ≡ Some a → slice_get parts j ≡ Some b → (i ≡ j → ⊥) →
      uses a.block range ≡ true → uses b.block range ≡ true → 1 < users range parts
  two [] i j a b e f ne u v = absurd (none-some a e)
  two (p ∷ more) zero zero a b e f ne u v = absurd (ne refl)
  two (p ∷ more) zero (suc j) a b e f ne u v =
      let others = counted more j b f v in
      subst (λ t. 1 < (if t then suc (users range more) else users range more)) (sym (ap (λ (x : Part). uses x.block range) (same_Some p a e) ∙ u)) (let k : 1 < suc (users range more) = omega (arith, others) in k)
  two (p ∷ more) (suc i) zero a b e f ne u v =
      let others = counted more i a e u in
      subst (λ t. 1 < (if t then suc (users range more) else users range more)) (sym (ap (λ (x : Part). uses x.block range) (same_Some p b f) ∙ v)) (let k : 1 < suc (users range more) = omega (arith, others) in k)
  two (p ∷ more) (suc i) (suc j) a b e f ne u v = at (uses p.block range) (two more i j a b e f (λ c. ne (ap suc c)) u v)
    where
      at : (t : Bool) → 1 < users range more → 1 < (if t then suc (users range more) else users range more)
      at true h = omega (arith, h)
      at false h = h

  some_writes : (parts : List Part) (j : ℕ) (b : Part) → slice_get parts j ≡ Some b → writes b.block range ≡ true → list_any (λ (part : Part). writes part.block range) parts ≡ true
  some_writes [] j b e w = absurd (none-some b e)
  some_writes (p ∷ more) zero b e w =
      or_left (writes p.block range) (list_any (λ (part : Part). writes part.block range) more) (ap (λ (x : Part). writes x.block range) (same_Some p b e) ∙ w)
  some_writes (p ∷ more) (suc j) b e w = or_right (writes p.block range) (list_any (λ (part : Part). writes part.block range) more) (some_writes more j b e w)

broken : (n : ℕ) → 1 < n → nat_le n 1 ≡ true → ⊥
broken n h t = grind (arith, h, t)

-- ---- one step of an array

module _ (p : Plan) (number : ℕ) (states : List State) (fit : IsTrue (list_all state_fits states)) where
  -- each cell that a part uses is one of a state's
  part_owned : (part : Part) → IsTrue (fine p number states part) → (k : ℕ) → uses part.block (one k) ≡ true → Owned states k
  part_owned part h k u = (block_uses_fair states fit (values_of p.entries part.need) part.block).owned (part_fine p number states part h).stmts k u

  rule_holds : (parts : List Part) → IsTrue (list_all (fine p number states) parts) → IsTrue (parts_apart states parts) → (i j : ℕ) (a b : Part) → slice_get parts i ≡ Some a → slice_get parts j ≡ Some b →
      (i ≡ j → ⊥) → (k : ℕ) → uses a.block (one k) ≡ true → writes b.block (one k) ≡ false
  rule_holds parts all apart i j a b e f ne k u = no_write (writes b.block (one k)) refl
    where
      no_write : (w : Bool) → writes b.block (one k) ≡ w → w ≡ false
      no_write false w = refl
      no_write true w =
          let owned = part_owned a (each_at (fine p number states) parts i a all e) k u in
          let range = state_range owned.state in
          let inside : Holds k range = record { from = owned.from; below = owned.below } in
          let test = each_at (λ (s : State). apart_on parts (state_range s)) states owned.nth owned.state apart owned.is in
          let written = (block_writes_fair states fit (values_of p.entries b.need) b.block).grows k range inside w in
          let used = (block_uses_fair states fit (values_of p.entries b.need) b.block).grows k range inside (or_right (any_of (map stmt_reads b.block) (one k)) (writes b.block (one k)) w) in
          let more = two range parts i j a b e f ne ((block_uses_fair states fit (values_of p.entries a.need) a.block).grows k range inside u) used in
          absurd (broken (users range parts) more (sym (ap (λ t. not t || nat_le (users range parts) 1) (some_writes range parts j b f written)) ∙ test))

-- ---- one step of an element

states_fit_in : (p : Plan) (n : ℕ) (o : Option Array) → slice_get p.arrays n ≡ o → IsTrue (list_all state_fits (states_at o))
states_fit_in p n None is = refl
states_fit_in p n (Some a) is = (fits_of a (each_at array_fits p.arrays n a (each_fits p) is)).each_state

states_fit : (p : Plan) (e : ℕ) → IsTrue (list_all state_fits (states_of p e))
states_fit p e = states_fit_in p (place_of p e).array (slice_get p.arrays (place_of p e).array) refl

apart_held : (p : Plan) → IsTrue (list_all array_apart p.arrays)
unfolding overlaps_hold
apart_held p = p.overlaps

none_apart : (states : List State) → IsTrue (parts_apart states [])
none_apart [] = refl
none_apart (s ∷ more) = none_apart more

step_apart : (states : List State) (steps : List Step) (s : ℕ) (o : Option Step) → IsTrue (list_all (λ (step : Step). parts_apart states step.parts) steps) → slice_get steps s ≡ o →
    IsTrue (parts_apart states (step_parts o))
step_apart states steps s None all is = none_apart states
step_apart states steps s (Some step) all is = each_at (λ (step : Step). parts_apart states step.parts) steps s step all is

parts_apart_in : (p : Plan) (n s : ℕ) (o : Option Array) → slice_get p.arrays n ≡ o → IsTrue (parts_apart (states_at o) (step_parts (slice_get (steps_at o) s)))
parts_apart_in p n s None is = refl
parts_apart_in p n s (Some a) is = step_apart a.states a.steps s (slice_get a.steps s) (each_at array_apart p.arrays n a (apart_held p) is) refl

step_is_apart : (p : Plan) (e s : ℕ) → IsTrue (parts_apart (states_of p e) (parts_at p e s))
step_is_apart p e s = parts_apart_in p (place_of p e).array s (slice_get p.arrays (place_of p e).array) refl

pub parts_are_apart : PartsAreApart
parts_are_apart p e s i j k ne u = by (slice_get (parts_at p e s) i) (slice_get (parts_at p e s) j) refl refl u
  where
    by : (a b : Option Part) → slice_get (parts_at p e s) i ≡ a → slice_get (parts_at p e s) j ≡ b → uses (part_block a) (one k) ≡ true → writes (part_block b) (one k) ≡ false
    by None b at_i at_j used = absurd (let c : false ≡ true = used in cc)
    by (Some a) None at_i at_j used = refl
    by (Some a) (Some b) at_i at_j used =
        rule_holds p (place_of p e).array (states_of p e) (states_fit p e) (parts_at p e s) (parts_ranged p e s) (step_is_apart p e s) i j a b at_i at_j ne k used

-- ---- each cell is there

states_end : (n : ℕ) (states : List State) (i : ℕ) (s : State) → IsTrue (placed_from n states) → slice_get states i ≡ Some s → s.at + s.cells ≤ n + cells_in states
states_end n [] i s all is = absurd (none-some s is)
states_end n (x ∷ more) zero s all is =
    let at : x.at ≡ n = eqb-true x.at n (and_parts _ _ all).0 in
    let same : x.at + x.cells ≡ s.at + s.cells = ap (λ (y : State). y.at + y.cells) (same_Some x s is) in
    omega arith
states_end n (x ∷ more) (suc i) s all is = omega (arith, states_end (n + x.cells) more i s (and_parts _ _ all).1 is)

states_placed_in : (p : Plan) (n : ℕ) (o : Option Array) → slice_get p.arrays n ≡ o → IsTrue (placed_from 0 (states_at o))
states_placed_in p n None is = refl
states_placed_in p n (Some a) is = each_at (λ (x : Array). placed_from 0 x.states) p.arrays n a (laid_out p).placed is

pub uses_are_within : UsesAreWithin
uses_are_within p e s q k u = by (slice_get (parts_at p e s) q) refl u
  where
    by : (o : Option Part) → slice_get (parts_at p e s) q ≡ o → uses (part_block o) (one k) ≡ true → k < cells_of p e
    by None at used = absurd (let c : false ≡ true = used in cc)
    by (Some part) at used =
        let n = (place_of p e).array in
        let owned = part_owned p n (states_of p e) (states_fit p e) part (each_at (fine p n (states_of p e)) (parts_at p e s) q part (parts_ranged p e s) at) k used in
        omega (arith, owned.below, states_end 0 (states_of p e) owned.nth owned.state (states_placed_in p n (slice_get p.arrays n) refl) owned.is)
