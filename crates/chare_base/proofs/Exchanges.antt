-- What a plan's rules say of its arrays, and of the two arrays of an entry.
use Rattle.std.proofs.Common.{◌≡◌, ℕ, zero, suc, ◌+◌, ◌*◌, ◌<◌, ◌≤◌, true, false, List, [], ◌∷◌, arith, Option, Some, None, refl, ap, sym, ◌∙◌, subst}
use Rattle.std.specs.Prelude.{IsTrue, slice_get}
use Rattle.std.specs.List.{list_all}
use Rattle.std.specs.Option.{option_map_or}
use Rattle.std.proofs.lemmas.Bool.{and_parts, eqb-true}
use Rattle.std.proofs.lemmas.Option.{none-some, same_Some}
use Rattle.chare_base.specs.declared.plan.Array.{Array}
use Rattle.chare_base.specs.declared.plan.Entry.{Entry}
use Rattle.chare_base.specs.declared.plan.Plan.{Plan}
use Rattle.chare_base.specs.declared.plan.Reduction.{Reduction}
use Rattle.chare_base.specs.Sizes.{size_of, elements_in}
use Rattle.chare_base.specs.Limits.{entry_fits, array_fits}
use Rattle.chare_base.specs.Layout.{numbered_from}
use Rattle.chare_base.specs.Ranges.{ranges_hold, arrays_in_range, entry_in_range, exchanged, reduction_in_range}
use Rattle.chare_base.specs.Entries.{first_of, rows_of, cols_of}
use Rattle.chare_base.proofs.Facts.{each_at, within, members_held, each_fits, elements_few, fits_of, laid_out}

-- an array that is there
pub record Stands (arrays : List Array) (number : ℕ) : Type 0 where
  pub array : Array
  pub is : slice_get arrays number ≡ Some array
  pub rows : 0 < rows_of arrays number
  pub cols : 0 < cols_of arrays number
  pub fits : first_of arrays number + rows_of arrays number * cols_of arrays number ≤ elements_in arrays

-- its elements are numbered from the first one on
fits_there : (n : ℕ) (arrays : List Array) (number : ℕ) (a : Array) → IsTrue (numbered_from n arrays) → slice_get arrays number ≡ Some a → a.first + size_of a ≤ n + elements_in arrays
fits_there n [] number a all is = absurd (none-some a is)
fits_there n (x ∷ more) zero a all is =
    let first : x.first ≡ n = eqb-true x.first n (and_parts _ _ all).0 in
    let same : x.first + size_of x ≡ a.first + size_of a = ap (λ (y : Array). y.first + size_of y) (same_Some x a is) in
    omega arith
fits_there n (x ∷ more) (suc number) a all is = omega (arith, fits_there (n + size_of x) more number a (and_parts _ _ all).1 is)

pub stands : (p : Plan) (number : ℕ) (a : Array) → slice_get p.arrays number ≡ Some a → Stands p.arrays number
stands p number a is =
    let fits = fits_of a (each_at array_fits p.arrays number a (each_fits p) is) in
    let first : first_of p.arrays number ≡ a.first = ap (λ o. option_map_or (λ (x : Array). x.first) o 0) is in
    let rows : rows_of p.arrays number ≡ a.rows = ap (λ o. option_map_or (λ (x : Array). x.rows) o 0) is in
    let cols : cols_of p.arrays number ≡ a.cols = ap (λ o. option_map_or (λ (x : Array). x.cols) o 0) is in
    let size : rows_of p.arrays number * cols_of p.arrays number ≡ size_of a = ap (λ n. n * cols_of p.arrays number) rows ∙ ap (λ n. a.rows * n) cols in
    record {
      array = a;
      is = is;
      rows = omega (arith, rows, fits.rows);
      cols = omega (arith, cols, fits.cols);
      fits = omega (arith, first, size, fits_there 0 p.arrays number a (laid_out p).numbered is);
    }

-- the numbers in a plan's arrays, entries and reductions
pub record Ranged (p : Plan) : Type 0 where
  pub arrays : IsTrue (arrays_in_range p.entries p.reductions 0 p.arrays)
  pub entries : IsTrue (list_all (entry_in_range p.arrays) p.entries)
  pub reductions : IsTrue (list_all (reduction_in_range p.arrays) p.reductions)

pub ranged : (p : Plan) → Ranged p
unfolding ranges_hold
ranged p =
    let answers = and_parts _ _ p.ranges in
    let reductions = and_parts _ _ answers.0 in
    let entries = and_parts _ _ reductions.0 in
    record { arrays = entries.0; entries = entries.1; reductions = reductions.1 }

-- both arrays of an entry are there, and of one shape
pub record Pair (arrays : List Array) (x : Entry) : Type 0 where
  pub owner : Stands arrays x.owner
  pub source : Stands arrays x.source
  pub rows : rows_of arrays x.owner ≡ rows_of arrays x.source
  pub cols : cols_of arrays x.owner ≡ cols_of arrays x.source

arrays_of : (p : Plan) (x : Entry) (a b : Option Array) → slice_get p.arrays x.owner ≡ a → slice_get p.arrays x.source ≡ b → IsTrue (exchanged x.down a b) → Pair p.arrays x
arrays_of p x (Some a) (Some b) ha hb h =
    let sides = and_parts _ _ (and_parts _ _ (and_parts _ _ h).0).1 in
    record {
      owner = stands p x.owner a ha;
      source = stands p x.source b hb;
      rows = ap (λ o. option_map_or (λ (y : Array). y.rows) o 0) ha ∙ eqb-true a.rows b.rows sides.0 ∙ sym (ap (λ o. option_map_or (λ (y : Array). y.rows) o 0) hb);
      cols = ap (λ o. option_map_or (λ (y : Array). y.cols) o 0) ha ∙ eqb-true a.cols b.cols sides.1 ∙ sym (ap (λ o. option_map_or (λ (y : Array). y.cols) o 0) hb);
    }
arrays_of p x (Some a) None ha hb h = absurd (let e : false ≡ true = h in cc)
arrays_of p x None b ha hb h = absurd (let e : false ≡ true = h in cc)

pub pair : (p : Plan) (n : ℕ) (x : Entry) → slice_get p.entries n ≡ Some x → Pair p.arrays x
pair p n x is = arrays_of p x (slice_get p.arrays x.owner) (slice_get p.arrays x.source) refl refl (each_at (entry_in_range p.arrays) p.entries n x (ranged p).entries is)

module _ (p : Plan) (n : ℕ) (x : Entry) (is : slice_get p.entries n ≡ Some x) where
  pub sender_rows : 0 < rows_of p.arrays x.source
  sender_rows = (pair p n x is).source.rows

  pub sender_cols : 0 < cols_of p.arrays x.source
  sender_cols = (pair p n x is).source.cols

  pub sender_fits : first_of p.arrays x.source + rows_of p.arrays x.source * cols_of p.arrays x.source ≤ 4096
  sender_fits = omega (arith, (pair p n x is).source.fits, elements_few p)

  pub receiver_rows : 0 < rows_of p.arrays x.owner
  receiver_rows = (pair p n x is).owner.rows

  pub receiver_cols : 0 < cols_of p.arrays x.owner
  receiver_cols = (pair p n x is).owner.cols

  pub receiver_fits : first_of p.arrays x.owner + rows_of p.arrays x.owner * cols_of p.arrays x.owner ≤ 4096
  receiver_fits = omega (arith, (pair p n x is).owner.fits, elements_few p)

  values_within : (1 ≤ x.values) × (x.values ≤ 8)
  values_within =
      let counts = and_parts _ _ (members_held p) in
      let reductions = and_parts _ _ counts.0 in
      let each = and_parts _ _ reductions.0 in
      within 1 8 x.values (and_parts _ _ (each_at entry_fits p.entries n x each.0 is)).1

  pub values_few : x.values ≤ 8
  values_few = values_within.1

-- the array of a reduction is there
reduced : (p : Plan) (number : ℕ) (o : Option Array) → slice_get p.arrays number ≡ o → number < Rattle.std.proofs.Common.length p.arrays → Stands p.arrays number
reduced p number (Some a) is h = stands p number a is
reduced p number None is h = absurd (there p.arrays number is h)
  where
    there : (arrays : List Array) (i : ℕ) → slice_get arrays i ≡ None → i < Rattle.std.proofs.Common.length arrays → ⊥
    there [] i none below = omega arith
    there (x ∷ more) zero none below = none-some x (sym none)
    there (x ∷ more) (suc i) none below = there more i none (omega arith)

pub members : (p : Plan) (n : ℕ) (r : Reduction) → slice_get p.reductions n ≡ Some r → Stands p.arrays r.owner
members p n r is =
    reduced p r.owner (slice_get p.arrays r.owner) refl (Rattle.std.proofs.lemmas.Bool.ltb-true r.owner (Rattle.std.proofs.Common.length p.arrays) (each_at (reduction_in_range p.arrays) p.reductions n r (ranged p).reductions is))
