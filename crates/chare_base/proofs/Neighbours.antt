-- The elements that exchange messages at an entry lead back to each other.
use Rattle.std.proofs.Common.{◌≡◌, ℕ, zero, suc, ◌+◌, ◌-◌, ◌*◌, ◌/◌, ◌%◌, ◌<◌, ◌≤◌, true, false, cond, List, [], ◌∷◌, arith, Option, Some, None, IfSome, refl, ap, sym, ◌∙◌, subst, inl, inr, ℤ, pos, negsuc, ◌+ℤ◌, ◌-ℤ◌, unsigned_abs}
use Rattle.std.specs.Prelude.{IsTrue, nat_lt}
use Rattle.std.specs.Int.{int_rem_euclid}
use Rattle.std.specs.Option.{option_map_or}
use Rattle.std.proofs.lemmas.Int.{ints, int_rem_euclid_is}
use Rattle.std.proofs.lemmas.Option.{none-some, same_Some, cond_some}
use Rattle.std.proofs.lemmas.Bool.{and_parts, eqb-true}
use Rattle.std.proofs.lemmas.Bool.Decides.{leb_tells, nat_tests}
use native.Mathlib.Nat.{add-mul-mod_self_right, div-add-mod', mod-eq_of_lt, mod-lt}
use Rattle.chare_base.specs.declared.message.Payload.{Payload}
use Rattle.chare_base.specs.declared.message.Source.{Source}
use Rattle.chare_base.specs.declared.message.Source.TheVariants as sources
use Rattle.chare_base.specs.declared.plan.Array.{Array}
use Rattle.chare_base.specs.declared.plan.Edge.{Edge}
use Rattle.chare_base.specs.declared.plan.Edge.TheVariants.{Wrap, Else}
use Rattle.chare_base.specs.declared.plan.ElementId.{ElementId}
use Rattle.chare_base.specs.declared.plan.Entry.{Entry}
use Rattle.chare_base.specs.declared.plan.Place.{Place}
use Rattle.chare_base.specs.declared.plan.Plan.{Plan}
use Rattle.chare_base.specs.Sizes.{size_of, elements_in}
use Rattle.chare_base.specs.Layout.{numbered_from}
use Rattle.chare_base.specs.Elements.{elements, place_in, place_of}
use Rattle.chare_base.specs.Entries.{entry_of, first_of, rows_of, cols_of, inside, coordinate, index_at, neighbour, source_index, target_index, edge_payload, nothing, element_at, source_in, target_in, source_of, target_of, id_of, SentWithin}
use Rattle.chare_base.specs.Laws.{Receives, Sends, SourcesAndTargets}
use Rattle.chare_base.proofs.Facts.{laid_out}
use Rattle.chare_base.proofs.Grid.{index_within, row_of_index, col_of_index, row_within, col_within, index_is}
use Rattle.chare_base.proofs.Exchanges.{Pair, pair}

below : (a b : ℕ) → a < b → nat_lt a b ≡ true
below a b h = grind (arith, nat_tests)

not_below : (a b : ℕ) → b ≤ a → nat_lt a b ≡ false
not_below a b h = grind (arith, nat_tests)

-- ---- where elements stand

abbrev at_place : ℕ → ℕ → Place
at_place number index = record { array = number; index = index }

-- how many elements the array of a number has
abbrev pub size_at : List Array → ℕ → ℕ
size_at arrays n = rows_of arrays n * cols_of arrays n

place_here : (number : ℕ) (a : Array) (more : List Array) (e : ℕ) → e < a.first + size_of a → place_in number (a ∷ more) e ≡ at_place number (e - a.first)
place_here number a more e h = ap (λ b. cond b (at_place number (e - a.first)) (place_in (suc number) more e)) (below e (a.first + size_of a) h)

place_later : (number : ℕ) (a : Array) (more : List Array) (e : ℕ) → a.first + size_of a ≤ e → place_in number (a ∷ more) e ≡ place_in (suc number) more e
place_later number a more e h = ap (λ b. cond b (at_place number (e - a.first)) (place_in (suc number) more e)) (not_below e (a.first + size_of a) h)

-- each array's elements are numbered from there on
from_there : (k : ℕ) (arrays : List Array) (n i : ℕ) → IsTrue (numbered_from k arrays) → i < size_at arrays n → k ≤ first_of arrays n
from_there k [] n i all h = absurd (omega arith)
from_there k (a ∷ more) zero i all h = let first : a.first ≡ k = eqb-true a.first k (and_parts _ _ all).0 in omega arith
from_there k (a ∷ more) (suc n) i all h = omega (arith, from_there (k + size_of a) more n i (and_parts _ _ all).1 h)

-- the element at an index of an array stands there
standing : (k number : ℕ) (arrays : List Array) (n i : ℕ) → IsTrue (numbered_from k arrays) → i < size_at arrays n → place_in number arrays (first_of arrays n + i) ≡ at_place (number + n) i
standing k number [] n i all h = absurd (omega arith)
standing k number (a ∷ more) zero i all h =
    let index : a.first + i - a.first ≡ i = omega arith in
    let same : number ≡ number + zero = omega arith in
    place_here number a more (a.first + i) (omega arith) ∙ ap (at_place number) index ∙ ap (λ m. at_place m i) same
standing k number (a ∷ more) (suc n) i all h =
    let first : a.first ≡ k = eqb-true a.first k (and_parts _ _ all).0 in
    let beyond : a.first + size_of a ≤ first_of more n + i = omega (arith, from_there (k + size_of a) more n i (and_parts _ _ all).1 h) in
    let same : suc number + n ≡ number + suc n = omega arith in
    place_later number a more (first_of more n + i) beyond ∙ standing (k + size_of a) (suc number) more n i (and_parts _ _ all).1 h ∙ ap (λ m. at_place m i) same

-- an element at its place, where the first array has the given number
record Stood (number : ℕ) (arrays : List Array) (e : ℕ) (place : Place) : Type 0 where
  pub nth : ℕ
  pub array : place.array ≡ number + nth
  pub within : place.index < size_at arrays nth
  pub is : e ≡ first_of arrays nth + place.index

stood_later : (number : ℕ) (a : Array) (more : List Array) (e : ℕ) → a.first + size_of a ≤ e → Stood (suc number) more e (place_in (suc number) more e) →
    Stood number (a ∷ more) e (place_in number (a ∷ more) e)
stood_later number a more e h s =
    subst (Stood number (a ∷ more) e) (sym (place_later number a more e h)) (record { nth = suc s.nth; array = omega (arith, s.array); within = s.within; is = s.is })

stood_here : (number : ℕ) (a : Array) (more : List Array) (e : ℕ) → a.first ≤ e → e < a.first + size_of a → Stood number (a ∷ more) e (place_in number (a ∷ more) e)
stood_here number a more e from h =
    let within : e - a.first < size_of a = omega arith in
    subst (Stood number (a ∷ more) e) (sym (place_here number a more e h)) (record { nth = zero; array = omega arith; within = within; is = omega arith })

stood : (k number : ℕ) (arrays : List Array) (e : ℕ) → IsTrue (numbered_from k arrays) → k ≤ e → e < k + elements_in arrays → Stood number arrays e (place_in number arrays e)
stood k number [] e all from h = absurd (omega arith)
stood k number (a ∷ more) e all from h =
    let first : a.first ≡ k = eqb-true a.first k (and_parts _ _ all).0 in
    elim (leb_tells (suc e) (a.first + size_of a)) [
      | inl q ↦ stood_here number a more e (omega arith) (omega (arith, q.1))
      | inr q ↦ let beyond : a.first + size_of a ≤ e = omega (arith, q.1) in stood_later number a more e beyond (stood (k + size_of a) (suc number) more e (and_parts _ _ all).1 (omega arith) (omega arith))
    ]

placed : (p : Plan) (e : ℕ) → e < elements p → Stood 0 p.arrays e (place_of p e)
unfolding place_of
placed p e h = stood 0 0 p.arrays e (laid_out p).numbered (omega arith) (omega (arith, h))

module _ (p : Plan) (e : ℕ) (h : e < elements p) where
  nth_is : (placed p e h).nth ≡ (place_of p e).array
  nth_is = omega (arith, (placed p e h).array)

  pub place_within : (place_of p e).index < size_at p.arrays (place_of p e).array
  place_within = subst (λ n. (place_of p e).index < size_at p.arrays n) nth_is (placed p e h).within

  -- an element is the one at its place
  pub element_is : first_of p.arrays (place_of p e).array + (place_of p e).index ≡ e
  element_is = sym (subst (λ n. e ≡ first_of p.arrays n + (place_of p e).index) nth_is (placed p e h).is)

pub place_is : (p : Plan) (n i : ℕ) → i < size_at p.arrays n → place_of p (first_of p.arrays n + i) ≡ at_place n i
unfolding place_of
place_is p n i h = let same : 0 + n ≡ n = omega arith in standing 0 0 p.arrays n i (laid_out p).numbered h ∙ ap (λ m. at_place m i) same

-- ---- coordinates

rest_within : (size : ℕ) (place : ℤ) → 0 < size → unsigned_abs (int_rem_euclid place (pos size)) < size
rest_within size (pos a) h = mod-lt a h
rest_within size (negsuc a) h = omega arith

inside_within : (size : ℕ) (place : ℤ) (i : ℕ) → inside size place ≡ Some i → (place ≡ pos i) × (i < size)
inside_within size (pos a) i h =
    let c = cond_some (nat_lt a size) a i h in
    (ap pos c.1, grind (arith, nat_tests, c))
inside_within size (negsuc a) i h = absurd (none-some i h)

coordinate_within : (edge : Edge) (size : ℕ) (place : ℤ) (i : ℕ) → 0 < size → coordinate edge size place ≡ Some i → i < size
coordinate_within Wrap size place i h is = subst (λ x. x < size) (same_Some (unsigned_abs (int_rem_euclid place (pos size))) i is) (rest_within size place h)
coordinate_within (Else value) size place i h is = (inside_within size place i is).1

rest_is : (m index k size : ℕ) → index < size → m ≡ index + k * size → m % size ≡ index
rest_is m index k size h e = ap (λ x. x % size) e ∙ add-mul-mod_self_right index k size ∙ mod-eq_of_lt h

wrap_back : (size index other : ℕ) (place back : ℤ) → index < size → place +ℤ back ≡ pos index +ℤ pos other → unsigned_abs (int_rem_euclid place (pos size)) ≡ other →
    unsigned_abs (int_rem_euclid back (pos size)) ≡ index
wrap_back size index other (pos a) back h sum is =
    let some : 0 < size = omega arith in
    let whole : a / size * size + a % size ≡ a = div-add-mod' a size in
    let there : back +ℤ pos (a / size * size) ≡ pos index = omega (arith, ints) in
    ap unsigned_abs (int_rem_euclid_is back (pos size) size (a / size) index some refl there) ∙ mod-eq_of_lt h
wrap_back size index other (negsuc a) back h sum is =
    let some : 0 < size = omega arith in
    let whole : a / size * size + a % size ≡ a = div-add-mod' a size in
    let small : a % size < size = mod-lt a some in
    let more : (1 + a / size) * size ≡ size + a / size * size = omega arith in
    let there : back +ℤ pos (0 * size) ≡ pos (index + (1 + a / size) * size) = omega (arith, ints) in
    ap unsigned_abs (int_rem_euclid_is back (pos size) size 0 (index + (1 + a / size) * size) some refl there)
    ∙ rest_is (index + (1 + a / size) * size) index (1 + a / size) size h refl

inside_back : (size index other : ℕ) (place back : ℤ) → index < size → place +ℤ back ≡ pos index +ℤ pos other → inside size place ≡ Some other → inside size back ≡ Some index
inside_back size index other place back h sum is =
    let at : place ≡ pos other = (inside_within size place other is).0 in
    let there : back ≡ pos index = omega (arith, ints) in
    ap (inside size) there ∙ ap (λ b. cond b (Some index) None) (below index size h)

-- a neighbour's neighbour in the opposite direction
coordinate_back : (edge : Edge) (size index other : ℕ) (place back : ℤ) → index < size → place +ℤ back ≡ pos index +ℤ pos other → coordinate edge size place ≡ Some other →
    coordinate edge size back ≡ Some index
coordinate_back Wrap size index other place back h sum is =
    ap Some (wrap_back size index other place back h sum (same_Some (unsigned_abs (int_rem_euclid place (pos size))) other is))
coordinate_back (Else value) size index other place back h sum is = inside_back size index other place back h sum is

-- ---- rows and columns

-- both coordinates of an index that is there
both_found : (cols : ℕ) (a b : Option ℕ) (i : ℕ) → index_at cols a b ≡ Some i → (r : ℕ) × (c : ℕ) × (a ≡ Some r) × (b ≡ Some c) × (r * cols + c ≡ i)
both_found cols (Some r) (Some c) i h = (r, c, refl, refl, same_Some (r * cols + c) i h)
both_found cols (Some r) None i h = absurd (none-some i h)
both_found cols None b i h = absurd (none-some i h)

-- the index of a neighbour is within the array
pub neighbour_within : (edge : Edge) (rows cols : ℕ) (row col : ℤ) (i : ℕ) → 0 < rows → 0 < cols → neighbour edge rows cols row col ≡ Some i → i < rows * cols
neighbour_within edge rows cols row col i some_rows some_cols is =
    let found = both_found cols (coordinate edge rows row) (coordinate edge cols col) i is in
    subst (λ n. n < rows * cols) found.4
    (index_within found.0 found.1 rows cols (coordinate_within edge rows row found.0 some_rows found.2) (coordinate_within edge cols col found.1 some_cols found.3))

-- places in both directions lead back
pub record Opposite (cols index other : ℕ) (row col row_back col_back : ℤ) : Type 0 where
  pub rows : row +ℤ row_back ≡ pos (index / cols) +ℤ pos (other / cols)
  pub columns : col +ℤ col_back ≡ pos (index % cols) +ℤ pos (other % cols)

pub neighbour_back : (edge : Edge) (rows cols index other : ℕ) (row col row_back col_back : ℤ) → 0 < rows → 0 < cols → index < rows * cols → Opposite cols index other row col row_back col_back →
    neighbour edge rows cols row col ≡ Some other → neighbour edge rows cols row_back col_back ≡ Some index
neighbour_back edge rows cols index other row col row_back col_back some_rows some_cols h o is =
    let found = both_found cols (coordinate edge rows row) (coordinate edge cols col) other is in
    let r = found.0 in
    let c = found.1 in
    let c_within : c < cols = coordinate_within edge cols col c some_cols found.3 in
    let r_is : other / cols ≡ r = ap (λ n. n / cols) (sym found.4) ∙ row_of_index r c cols c_within in
    let c_is : other % cols ≡ c = ap (λ n. n % cols) (sym found.4) ∙ col_of_index r c cols c_within in
    let row_sum : row +ℤ row_back ≡ pos (index / cols) +ℤ pos r = o.rows ∙ ap (λ n. pos (index / cols) +ℤ pos n) r_is in
    let col_sum : col +ℤ col_back ≡ pos (index % cols) +ℤ pos c = o.columns ∙ ap (λ n. pos (index % cols) +ℤ pos n) c_is in
    ap (λ a. index_at cols a (coordinate edge cols col_back)) (coordinate_back edge rows (index / cols) r row row_back (row_within index rows cols h some_cols) row_sum found.2)
    ∙ ap (index_at cols (Some (index / cols))) (coordinate_back edge cols (index % cols) c col col_back (col_within index rows cols h some_cols) col_sum found.3)
    ∙ ap Some (index_is index rows cols h some_cols)

there_and_back : (a b c : ℤ) → (a -ℤ b) +ℤ (c +ℤ b) ≡ a +ℤ c
there_and_back a b c = omega (arith, ints)

back_and_there : (a b c : ℤ) → (a +ℤ b) +ℤ (c -ℤ b) ≡ a +ℤ c
back_and_there a b c = omega (arith, ints)

-- ---- elements

-- what is found is an element at an index
target_found : (first : ℕ) (o : Option ℕ) (t : ElementId) → option_map_or (λ i. Some (element_at first i)) o None ≡ Some t → (i : ℕ) × (o ≡ Some i) × (element_at first i ≡ t)
target_found first (Some i) t h = (i, refl, same_Some (element_at first i) t h)
target_found first None t h = absurd (none-some t h)

source_found : (first : ℕ) (payload : Payload) (o : Option ℕ) (e : ElementId) → option_map_or (λ i. sources.Element (element_at first i)) o (sources.Edge payload) ≡ sources.Element e →
    (i : ℕ) × (o ≡ Some i) × (element_at first i ≡ e)
source_found first payload (Some i) e h = (i, refl, cc)
source_found first payload None e h = absurd cc

module _ (p : Plan) (x : ℕ) (entry : Entry) (is : entry_of p x ≡ Some entry) where
  both : Pair p.arrays entry
  both = pair p x entry is

  same_size : size_at p.arrays entry.owner ≡ size_at p.arrays entry.source
  same_size = ap (λ n. n * cols_of p.arrays entry.owner) both.rows ∙ ap (λ n. rows_of p.arrays entry.source * n) both.cols

  source_at : (e : ℕ) → source_of p x e ≡ source_in p.arrays (place_of p e).index entry
  unfolding source_of
  source_at e = ap (λ o. option_map_or (source_in p.arrays (place_of p e).index) o (sources.Edge nothing)) is

  target_at : (e : ℕ) → target_of p x e ≡ target_in p.arrays (place_of p e).index entry
  unfolding target_of
  target_at e = ap (λ o. option_map_or (target_in p.arrays (place_of p e).index) o None) is

  target_index_within : (index i : ℕ) → target_index p.arrays entry index ≡ Some i → i < size_at p.arrays entry.owner
  target_index_within index i found =
      neighbour_within entry.edge (rows_of p.arrays entry.owner) (cols_of p.arrays entry.owner) (pos (index / cols_of p.arrays entry.owner) -ℤ entry.down) (pos (index % cols_of p.arrays entry.owner) -ℤ entry.across) i
      both.owner.rows both.owner.cols found

  source_index_within : (index i : ℕ) → source_index p.arrays entry index ≡ Some i → i < size_at p.arrays entry.source
  source_index_within index i found =
      neighbour_within entry.edge (rows_of p.arrays entry.source) (cols_of p.arrays entry.source) (pos (index / cols_of p.arrays entry.source) +ℤ entry.down) (pos (index % cols_of p.arrays entry.source) +ℤ entry.across) i
      both.source.rows both.source.cols found

  -- whatever the index, what is found is an element
  pub target_within : (arrays : List Array) (index : ℕ) (r : Option ElementId) → arrays ≡ p.arrays → r ≡ target_in arrays index entry → IfSome r (λ t. t.0 < elements p)
  target_within arrays index r same told =
      subst (λ o. IfSome o (λ t. t.0 < elements p)) (sym (told ∙ ap (λ xs. target_in xs index entry) same)) (each_index (target_index p.arrays entry index) refl)
    where
      each_index : (o : Option ℕ) → target_index p.arrays entry index ≡ o → IfSome (option_map_or (λ i. Some (element_at (first_of p.arrays entry.owner) i)) o None) (λ t. t.0 < elements p)
      each_index (Some i) found = omega (arith, target_index_within index i found, both.owner.fits)
      each_index None found = tt

  pub source_within : (arrays : List Array) (index : ℕ) (r : Source) → arrays ≡ p.arrays → r ≡ source_in arrays index entry → SentWithin (elements p) r
  source_within arrays index r same told =
      subst (SentWithin (elements p)) (sym (told ∙ ap (λ xs. source_in xs index entry) same)) (each_index (source_index p.arrays entry index) refl)
    where
      each_index : (o : Option ℕ) → source_index p.arrays entry index ≡ o →
          SentWithin (elements p) (option_map_or (λ i. sources.Element (element_at (first_of p.arrays entry.source) i)) o (sources.Edge (edge_payload entry.edge entry.values)))
      each_index (Some i) found = omega (arith, source_index_within index i found, both.source.fits)
      each_index None found = tt

  -- both arrays have the same rows and columns
  as_source : (i index : ℕ) → neighbour entry.edge (rows_of p.arrays entry.owner) (cols_of p.arrays entry.owner) (pos (i / cols_of p.arrays entry.owner) +ℤ entry.down)
      (pos (i % cols_of p.arrays entry.owner) +ℤ entry.across) ≡ Some index → source_index p.arrays entry i ≡ Some index
  as_source i index is =
      subst (λ cols. neighbour entry.edge (rows_of p.arrays entry.source) cols (pos (i / cols) +ℤ entry.down) (pos (i % cols) +ℤ entry.across) ≡ Some index) both.cols
      (subst (λ rows. neighbour entry.edge rows (cols_of p.arrays entry.owner) (pos (i / cols_of p.arrays entry.owner) +ℤ entry.down) (pos (i % cols_of p.arrays entry.owner) +ℤ entry.across) ≡ Some index) both.rows is)

  as_target : (i index : ℕ) → neighbour entry.edge (rows_of p.arrays entry.source) (cols_of p.arrays entry.source) (pos (i / cols_of p.arrays entry.source) -ℤ entry.down)
      (pos (i % cols_of p.arrays entry.source) -ℤ entry.across) ≡ Some index → target_index p.arrays entry i ≡ Some index
  as_target i index is =
      subst (λ cols. neighbour entry.edge (rows_of p.arrays entry.owner) cols (pos (i / cols) -ℤ entry.down) (pos (i % cols) -ℤ entry.across) ≡ Some index) (sym both.cols)
      (subst (λ rows. neighbour entry.edge rows (cols_of p.arrays entry.source) (pos (i / cols_of p.arrays entry.source) -ℤ entry.down) (pos (i % cols_of p.arrays entry.source) -ℤ entry.across) ≡ Some index) (sym both.rows) is)

  -- the element at an index of the owner gets what its neighbour sends
  receives : (e i : ℕ) → e < elements p → (place_of p e).array ≡ entry.source → target_index p.arrays entry (place_of p e).index ≡ Some i →
      Receives p x e entry (element_at (first_of p.arrays entry.owner) i)
  receives e i h at found =
      let index = (place_of p e).index in
      let cols = cols_of p.arrays entry.owner in
      let within = target_index_within index i found in
      let place = place_is p entry.owner i within in
      let near : index < size_at p.arrays entry.owner = omega (arith, place_within p e h, ap (size_at p.arrays) at, same_size) in
      let opposite : Opposite cols index i (pos (index / cols) -ℤ entry.down) (pos (index % cols) -ℤ entry.across) (pos (i / cols) +ℤ entry.down) (pos (i % cols) +ℤ entry.across) =
      record { rows = there_and_back (pos (index / cols)) entry.down (pos (i / cols)); columns = there_and_back (pos (index % cols)) entry.across (pos (i % cols)) } in
      let back : neighbour entry.edge (rows_of p.arrays entry.owner) cols (pos (i / cols) +ℤ entry.down) (pos (i % cols) +ℤ entry.across) ≡ Some index =
      neighbour_back entry.edge (rows_of p.arrays entry.owner) cols index i (pos (index / cols) -ℤ entry.down) (pos (index % cols) -ℤ entry.across) (pos (i / cols) +ℤ entry.down) (pos (i % cols) +ℤ entry.across)
      both.owner.rows both.owner.cols near opposite found in
      let whole : first_of p.arrays entry.source + index ≡ e = ap (λ n. first_of p.arrays n + index) (sym at) ∙ element_is p e h in
      record {
        element = omega (arith, within, both.owner.fits);
        array = ap (λ (q : Place). q.array) place;
        back =
            source_at (first_of p.arrays entry.owner + i) ∙ ap (λ (q : Place). source_in p.arrays q.index entry) place
            ∙ ap (λ o. option_map_or (λ j. sources.Element (element_at (first_of p.arrays entry.source) j)) o (sources.Edge (edge_payload entry.edge entry.values))) (as_source i index back)
            ∙ ap (λ n. sources.Element (id_of n)) whole;
      }

  -- the element at an index of the source sends to its neighbour
  sends : (t i : ℕ) → t < elements p → (place_of p t).array ≡ entry.owner → source_index p.arrays entry (place_of p t).index ≡ Some i →
      Sends p x t entry (element_at (first_of p.arrays entry.source) i)
  sends t i h at found =
      let index = (place_of p t).index in
      let cols = cols_of p.arrays entry.source in
      let within = source_index_within index i found in
      let place = place_is p entry.source i within in
      let near : index < size_at p.arrays entry.source = omega (arith, place_within p t h, ap (size_at p.arrays) at, same_size) in
      let opposite : Opposite cols index i (pos (index / cols) +ℤ entry.down) (pos (index % cols) +ℤ entry.across) (pos (i / cols) -ℤ entry.down) (pos (i % cols) -ℤ entry.across) =
      record { rows = back_and_there (pos (index / cols)) entry.down (pos (i / cols)); columns = back_and_there (pos (index % cols)) entry.across (pos (i % cols)) } in
      let back : neighbour entry.edge (rows_of p.arrays entry.source) cols (pos (i / cols) -ℤ entry.down) (pos (i % cols) -ℤ entry.across) ≡ Some index =
      neighbour_back entry.edge (rows_of p.arrays entry.source) cols index i (pos (index / cols) +ℤ entry.down) (pos (index % cols) +ℤ entry.across) (pos (i / cols) -ℤ entry.down) (pos (i % cols) -ℤ entry.across)
      both.source.rows both.source.cols near opposite found in
      let whole : first_of p.arrays entry.owner + index ≡ t = ap (λ n. first_of p.arrays n + index) (sym at) ∙ element_is p t h in
      record {
        element = omega (arith, within, both.source.fits);
        array = ap (λ (q : Place). q.array) place;
        back =
            target_at (first_of p.arrays entry.source + i) ∙ ap (λ (q : Place). target_in p.arrays q.index entry) place
            ∙ ap (λ o. option_map_or (λ j. Some (element_at (first_of p.arrays entry.owner) j)) o None) (as_target i index back) ∙ ap (λ n. Some (id_of n)) whole;
      }

pub sources_and_targets : SourcesAndTargets
sources_and_targets = record {
  to = λ p x e entry t is h at target.
      let found = target_found (first_of p.arrays entry.owner) (target_index p.arrays entry (place_of p e).index) t (sym (target_at p x entry is e) ∙ target) in
      subst (Receives p x e entry) found.2 (receives p x entry is e found.0 h at found.1);
  from = λ p x t entry e is h at source.
      let found =
      source_found (first_of p.arrays entry.source) (edge_payload entry.edge entry.values) (source_index p.arrays entry (place_of p t).index) e
      (sym (source_at p x entry is t) ∙ source) in
      subst (Sends p x t entry) found.2 (sends p x entry is t found.0 h at found.1);
}
