-- What the rules of a plan say at one place.
use Rattle.std.proofs.Common.{◌≡◌, ℕ, zero, suc, ◌+◌, ◌-◌, ◌*◌, ◌<◌, ◌≤◌, Bool, true, false, cond, List, [], ◌∷◌, length, get_or, arith, Option, Some, None, refl, ap, sym, ◌∙◌, subst, inl, inr}
use Rattle.std.specs.Prelude.{IsTrue, slice_get, nat_lt}
use Rattle.std.specs.List.{list_all}
use Rattle.std.specs.Option.{option_map_or}
use Rattle.std.proofs.lemmas.Option.{slice_get_read}
use Rattle.std.proofs.lemmas.Bool.{and_parts, leb-true, eqb-true}
use Rattle.std.proofs.lemmas.Bool.Decides.{leb_tells}
use Rattle.std.proofs.Math.Nat.{mul-pos, mul-le-mul}
use Rattle.chare_base.specs.declared.plan.Answer.{Answer}
use Rattle.chare_base.specs.declared.plan.Array.{Array}
use Rattle.chare_base.specs.declared.plan.Entry.{Entry}
use Rattle.chare_base.specs.declared.plan.Place.{Place}
use Rattle.chare_base.specs.declared.plan.Part.{Part}
use Rattle.chare_base.specs.declared.plan.Plan.{Plan}
use Rattle.chare_base.specs.declared.plan.Reduction.{Reduction}
use Rattle.chare_base.specs.declared.plan.Step.{Step}
use Rattle.chare_base.specs.declared.message.Need.TheVariants as needs
use Rattle.chare_base.specs.Sizes.{size_of, elements_in, cells_in, all_cells_in}
use Rattle.chare_base.specs.Limits.{between, state_fits, step_fits, array_fits, arrays_fit, members_fit, limits_hold}
use Rattle.chare_base.specs.Layout.{numbered_from, placed_from, layout_holds}
use Rattle.chare_base.specs.Elements.{most_steps, steps_in_round, elements, place_in, place_of, array_of, states_of, cols_at, steps_of, parts_at, need_at, block_at}

-- a test of each holds of the one at a place
pub each_at : {A : Type 0} (p : A → Bool) (xs : List A) (i : ℕ) (x : A) → IsTrue (list_all p xs) → slice_get xs i ≡ Some x → IsTrue (p x)
each_at p [] i x h e = cc
each_at p (y ∷ xs) zero x h e = let same : y ≡ x = cc in subst (λ z. IsTrue (p z)) same (and_parts _ _ h).0
each_at p (y ∷ xs) (suc i) x h e = each_at p xs i x (and_parts _ _ h).1 e

pub within : (low high n : ℕ) → IsTrue (between low high n) → (low ≤ n) × (n ≤ high)
within low high n h = (leb-true low n (and_parts _ _ h).0, leb-true n high (and_parts _ _ h).1)

-- ---- limits

pub record Limited (name : List ℕ) (iterations : ℕ) (arrays : List Array) (entries : List Entry) (reductions : List Reduction) (answers : List Answer) : Type 0 where
  pub often : (1 ≤ iterations) × (iterations ≤ 1000000)
  pub sized : IsTrue (arrays_fit arrays)
  pub members : IsTrue (members_fit entries reductions)

pub limited : (name : List ℕ) (iterations : ℕ) (arrays : List Array) (entries : List Entry) (reductions : List Reduction) (answers : List Answer) →
    IsTrue (limits_hold name iterations arrays entries reductions answers) → Limited name iterations arrays entries reductions answers
unfolding limits_hold
limited name iterations arrays entries reductions answers h =
    let members = and_parts _ _ h in
    let count = and_parts _ _ members.0 in
    let each = and_parts _ _ count.0 in
    let often = and_parts _ _ each.0 in
    record { often = within 1 1000000 iterations often.1; sized = each.1; members = members.1 }

limits_of : (p : Plan) → Limited p.name p.iterations p.arrays p.entries p.reductions p.answers
limits_of p = limited p.name p.iterations p.arrays p.entries p.reductions p.answers p.limits

pub iterations_some : (p : Plan) → 1 ≤ p.iterations
iterations_some p = (limits_of p).often.0

pub iterations_few : (p : Plan) → p.iterations ≤ 1000000
iterations_few p = (limits_of p).often.1

pub members_held : (p : Plan) → IsTrue (members_fit p.entries p.reductions)
members_held p = (limits_of p).members

-- what the limits say of the arrays
pub record ArraysFit (arrays : List Array) : Type 0 where
  pub count : (1 ≤ length arrays) × (length arrays ≤ 8)
  pub each : IsTrue (list_all array_fits arrays)
  pub elements : elements_in arrays ≤ 4096
  pub cells : all_cells_in arrays ≤ 1048576

pub arrays_held : (arrays : List Array) → IsTrue (arrays_fit arrays) → ArraysFit arrays
arrays_held arrays h =
    let cells = and_parts _ _ h in
    let elements = and_parts _ _ cells.0 in
    let each = and_parts _ _ elements.0 in
    record {
      count = within 1 8 (length arrays) each.0;
      each = each.1;
      elements = leb-true (elements_in arrays) 4096 elements.1;
      cells = leb-true (all_cells_in arrays) 1048576 cells.1;
    }

arrays_of : (p : Plan) → ArraysFit p.arrays
arrays_of p = arrays_held p.arrays (limits_of p).sized

pub arrays_few : (p : Plan) → length p.arrays ≤ 8
arrays_few p = (arrays_of p).count.1

pub each_fits : (p : Plan) → IsTrue (list_all array_fits p.arrays)
each_fits p = (arrays_of p).each

pub elements_few : (p : Plan) → elements p ≤ 4096
elements_few p = (arrays_of p).elements

-- what the limits say of one array
pub record Fits (a : Array) : Type 0 where
  pub rows : (1 ≤ a.rows) × (a.rows ≤ 4096)
  pub cols : (1 ≤ a.cols) × (a.cols ≤ 4096)
  pub size : size_of a ≤ 4096
  pub states : (1 ≤ length a.states) × (length a.states ≤ 16)
  pub cells : cells_in a.states ≤ 4096
  pub each_state : IsTrue (list_all state_fits a.states)
  pub steps : (1 ≤ length a.steps) × (length a.steps ≤ 32)
  pub each_step : IsTrue (list_all step_fits a.steps)

pub fits_of : (a : Array) → IsTrue (array_fits a) → Fits a
fits_of a h =
    let steps = and_parts _ _ h in
    let states = and_parts _ _ steps.0 in
    let shape = and_parts _ _ (and_parts _ _ states.0).1 in
    let sides = and_parts _ _ (and_parts _ _ shape.0).0 in
    let cells = and_parts _ _ states.1 in
    let each_state = and_parts _ _ cells.0 in
    let each_step = and_parts _ _ steps.1 in
    record {
      rows = within 1 4096 a.rows sides.0;
      cols = within 1 4096 a.cols sides.1;
      size = leb-true (size_of a) 4096 shape.1;
      states = within 1 16 (length a.states) each_state.0;
      cells = leb-true (cells_in a.states) 4096 cells.1;
      each_state = each_state.1;
      steps = within 1 32 (length a.steps) each_step.0;
      each_step = each_step.1;
    }

-- an array has elements
pub size_some : (a : Array) → Fits a → 1 ≤ size_of a
size_some a f = mul-pos f.rows.0 f.cols.0

some_of : (arrays : List Array) → 1 ≤ length arrays → IsTrue (list_all array_fits arrays) → 1 ≤ elements_in arrays
some_of [] h all = absurd (omega arith)
some_of (a ∷ more) h all = omega (arith, size_some a (fits_of a (and_parts _ _ all).0))

pub elements_some : (p : Plan) → 1 ≤ elements p
elements_some p = some_of p.arrays (arrays_of p).count.0 (each_fits p)

-- ---- where an element stands

pub record LaidOut (arrays : List Array) : Type 0 where
  pub numbered : IsTrue (numbered_from 0 arrays)
  pub placed : IsTrue (list_all (λ a. placed_from 0 a.states) arrays)

pub laid_out : (p : Plan) → LaidOut p.arrays
unfolding layout_holds
laid_out p = let h = and_parts _ _ p.layout in record { numbered = h.0; placed = h.1 }

-- an element's array is there, where the first array has the given number and its elements begin at another
array_below : (n number : ℕ) (arrays : List Array) (e : ℕ) → IsTrue (numbered_from n arrays) → n ≤ e → e < n + elements_in arrays →
    (place_in number arrays e).array < number + length arrays
array_below n number [] e h from below = absurd (omega arith)
array_below n number (a ∷ more) e h from below =
    by_test (nat_lt e (a.first + size_of a)) refl (λ k. array_below (n + size_of a) (suc number) more e (and_parts _ _ h).1 k (omega (arith, below)))
  where
    first : a.first ≡ n
    first = eqb-true a.first n (and_parts _ _ h).0

    beyond : nat_lt e (a.first + size_of a) ≡ false → n + size_of a ≤ e
    beyond t = elim (leb_tells (suc e) (a.first + size_of a)) [ inl p ↦ absurd cc | inr p ↦ omega (arith, p.1, first) ]

    by_test : (b : Bool) → nat_lt e (a.first + size_of a) ≡ b → (n + size_of a ≤ e → (place_in (suc number) more e).array < suc number + length more) →
        (cond b (record { array = number; index = e - a.first }) (place_in (suc number) more e)).array < number + suc (length more)
    by_test true t rest = omega arith
    by_test false t rest = omega (arith, rest (beyond t))

pub place_in_range : (p : Plan) (e : ℕ) → e < elements p → (place_of p e).array < length p.arrays
unfolding place_of
place_in_range p e h = omega (arith, array_below 0 0 p.arrays e (laid_out p).numbered (omega arith) (omega (arith, h)))

pub array_found : (p : Plan) (e : ℕ) (arrays : List Array) (place : Place) (a : Array) → arrays ≡ p.arrays → place ≡ place_of p e → e < elements p →
    a ≡ get_or arrays place.array a → array_of p e ≡ Some a
array_found p e arrays place a same at h is =
    let there : place.array < length arrays = omega (arith, place_in_range p e h, ap length same, ap (λ x. x.array) at) in
    ap (λ x. slice_get p.arrays x.array) (sym at) ∙ ap (λ xs. slice_get xs place.array) (sym same) ∙ slice_get_read arrays (length arrays) place.array a refl there is

module _ (p : Plan) (e : ℕ) (a : Array) (is : array_of p e ≡ Some a) where
  pub fits : Fits a
  fits = fits_of a (each_at array_fits p.arrays (place_of p e).array a (each_fits p) is)

  pub states_are : states_of p e ≡ a.states
  states_are = ap (λ o. option_map_or (λ x. x.states) o []) is

  pub cells_few : cells_in a.states ≤ 4096
  cells_few = fits.cells

  pub cols_are : cols_at p e ≡ a.cols
  cols_are = ap (λ o. option_map_or (λ x. x.cols) o 1) is

  pub steps_are : steps_of p e ≡ a.steps
  steps_are = ap (λ o. option_map_or (λ x. x.steps) o []) is

  pub steps_few : length a.steps ≤ 32
  steps_few = fits.steps.1

  pub parts_few : (s : ℕ) (steps : List Step) (step : Step) → steps ≡ a.steps → s < length (steps_of p e) → step ≡ get_or steps s step → (parts_at p e s ≡ step.parts) × (length step.parts ≤ 8)
  parts_few s steps step same h get =
      let there : s < length steps = omega (arith, ap length steps_are, ap length same) in
      let at : slice_get a.steps s ≡ Some step = ap (λ xs. slice_get xs s) (sym same) ∙ slice_get_read steps (length steps) s step refl there get in (
        ap (λ o. option_map_or (λ (x : Step). x.parts) (slice_get (option_map_or (λ x. x.steps) o []) s) []) is ∙ ap (λ o. option_map_or (λ (x : Step). x.parts) o []) at,
        (within 1 8 (length step.parts) (each_at step_fits a.steps s step fits.each_step at)).1,
      )

pub size_few : (a : Array) → IsTrue (array_fits a) → size_of a ≤ 4096
size_few a h = (fits_of a h).size

pub cells_in_few : (a : Array) → IsTrue (array_fits a) → cells_in a.states ≤ 4096
cells_in_few a h = (fits_of a h).cells

pub product_few : (x y : ℕ) → x ≤ 4096 → y ≤ 4096 → x * y ≤ 16777216
product_few x y h k = mul-le-mul h k

most_few : (arrays : List Array) → IsTrue (list_all array_fits arrays) → most_steps arrays ≤ 32
most_few [] all = omega arith
most_few (a ∷ more) all = omega (arith, (fits_of a (and_parts _ _ all).0).steps.1, most_few more (and_parts _ _ all).1)

pub most_steps_few : (p : Plan) → steps_in_round p ≤ 32
most_steps_few p = most_few p.arrays (each_fits p)

some_parts_of : (p : Plan) (e s : ℕ) (o : Option Array) (q : Option Step) → array_of p e ≡ o → slice_get (steps_of p e) s ≡ q → s < length (steps_of p e) → 1 ≤ length (option_map_or (λ (step : Step). step.parts) q [])
some_parts_of p e s None q is at h = absurd (omega (arith, ap (λ x. length (option_map_or (λ (a : Array). a.steps) x [])) is))
some_parts_of p e s (Some a) None is at h = absurd (there (steps_of p e) s at h)
  where
    there : (steps : List Step) (i : ℕ) → slice_get steps i ≡ None → i < length steps → ⊥
    there [] i none below = omega arith
    there (x ∷ more) zero none below = cc
    there (x ∷ more) (suc i) none below = there more i none (omega arith)
some_parts_of p e s (Some a) (Some step) is at h =
    let here : slice_get a.steps s ≡ Some step = ap (λ xs. slice_get xs s) (sym (steps_are p e a is)) ∙ at in
    (within 1 8 (length step.parts) (each_at step_fits a.steps s step (fits p e a is).each_step here)).0

-- a step has a part
pub some_parts : (p : Plan) (e s : ℕ) → s < length (steps_of p e) → 1 ≤ length (parts_at p e s)
some_parts p e s h = some_parts_of p e s (array_of p e) (slice_get (steps_of p e) s) refl refl h

-- a part of a step, as it is found in the plan's lists
module _ (p : Plan) (e s q : ℕ) (steps : List Step) (step : Step) (parts : List Part) (a : Array) (is : array_of p e ≡ Some a) (same : steps ≡ a.steps) (below : s < length (steps_of p e))
    (at : step ≡ get_or steps s step) (same_parts : parts ≡ step.parts) where
  parts_here : parts_at p e s ≡ parts
  parts_here = (parts_few p e a is s steps step same below at).0 ∙ sym same_parts

  pub part_below : q < length (parts_at p e s) → q < length parts
  part_below h = omega (arith, ap length parts_here)

  part_here : (part : Part) → q < length (parts_at p e s) → part ≡ get_or parts q part → slice_get (parts_at p e s) q ≡ Some part
  part_here part h get = ap (λ xs. slice_get xs q) parts_here ∙ slice_get_read parts (length parts) q part refl (part_below h) get

  pub need_here : (part : Part) → q < length (parts_at p e s) → part ≡ get_or parts q part → part.need ≡ need_at p e s q
  need_here part h get = sym (ap (λ o. option_map_or (λ (x : Part). x.need) o needs.Nothing) (part_here part h get))

  pub block_here : (part : Part) → q < length (parts_at p e s) → part ≡ get_or parts q part → part.block ≡ block_at p e s q
  block_here part h get = sym (ap (λ o. option_map_or (λ (x : Part). x.block) o []) (part_here part h get))
