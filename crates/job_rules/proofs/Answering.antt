-- Answers that break no rule, and their plans.
use Rattle.std.proofs.Common.{◌≡◌, ℕ, zero, suc, ◌+◌, ◌*◌, ◌<◌, ◌≤◌, Bool, true, false, List, [], ◌∷◌, length, map, refl, ap, sym, ◌∙◌, arith, Option, None, Some}
use Rattle.std.specs.Prelude.{◌&&◌, not, nat_le, nat_lt, slice_get}
use Rattle.std.specs.List.{list_all, list_any}
use Rattle.std.proofs.lemmas.Bool.{and_parts, le-leb, lt-ltb, ltb-true}
use Rattle.std.proofs.lemmas.Option.{slice_get_within}
use Rattle.std.proofs.Math.Nat.{mul-le-mul_right}
use Rattle.chare_base.specs.declared.plan.Array.{Array}
use Rattle.chare_base.specs.Ranges.{answer_in_range, cell_of_array, state_there}
use Rattle.chare_base.specs.Sizes.{cells_in, size_of}
use Rattle.job_tree.specs.declared.token.Num.{Num}
use Rattle.job_tree.specs.declared.token.Span.{Span}
use Rattle.job_tree.specs.declared.tree.AnswerDecl.{AnswerDecl}
use Rattle.job_tree.specs.declared.tree.AnswerDecl.TheVariants as answers
use Rattle.job_tree.specs.declared.tree.ArrayDecl.{ArrayDecl}
use Rattle.job_tree.specs.declared.tree.Coordinates.{Coordinates}
use Rattle.job_tree.specs.declared.tree.Job.{Job}
use Rattle.job_rules.specs.declared.fault.CheckFault.TheVariants as faults
use Rattle.job_rules.specs.declared.names.Meaning.{Meaning}
use Rattle.job_rules.specs.declared.names.Meaning.TheVariants as meanings
use Rattle.job_rules.specs.declared.tables.JobNames.{JobNames}
use Rattle.job_rules.specs.Answers.{answer_fault, answers_found, at_fault, below, cell_fault, coordinates_fault, element_fault, index_fault, over_fault, state_fault}
use Rattle.job_rules.specs.Faults.{Found, name_fault, nothing, sooner}
use Rattle.job_rules.specs.Names.{bytes_at, lookup}
use Rattle.job_rules.specs.PlannedAnswers as p
use Rattle.job_rules.specs.PlannedAnswers.{answer_planned, cell_in, cell_written, element_in, element_or_none, index_written}
use Rattle.job_rules.specs.PlannedArrays.{array_planned, cols_planned, cols_written, rows_planned, rows_written, states_planned}
use Rattle.job_rules.specs.PlannedNames.{member, range_meant, range_or_none, state_meant}
use Rattle.job_rules.specs.Numbers.{narrow16, narrow32, number16}
use Rattle.job_rules.specs.Limits.{elements_written}
use Rattle.job_rules.specs.Tables.{array_number, meant_in, member_meaning, table_at}
use Rattle.job_rules.proofs.Counting.{both, cells_of_all}
use Rattle.job_rules.proofs.Laying.{Shaped, StatesLaid}
use Rattle.job_rules.proofs.Meant.{some_item}
use Rattle.job_rules.proofs.Places.{IsBelow, Sound, array_below}
use Rattle.job_rules.proofs.Sooner.{faultless, first_none, is_none-none, sooner_none, unbroken}
use Rattle.job_rules.proofs.Tabled.{Lists, Told}

not_true : (b : Bool) → not b ≡ false → b ≡ true
not_true true h = refl
not_true false h = absurd (let e : true ≡ false = h in cc)

is_below : (size : ℕ) (n : Num) → below size n ≡ nothing → n.value < size
is_below size n h = ltb-true n.value size (not_true (nat_lt n.value size) (unbroken (not (nat_lt n.value size)) (faults.Bound n.at) h))

meant_same : (names : JobNames) (n : ℕ) (name : List ℕ) → member_meaning names n name ≡ lookup (table_at names n) name
unfolding member_meaning
meant_same names n name = refl

-- ---- elements

-- the index of an element, within its array
index_one : (size first : Num) → first.value < size.value → narrow32 size.value ≡ size.value → size.value ≤ 4096 → narrow32 first.value < 1 * narrow32 size.value
index_one size first h k few = omega (arith, h, k)

index_two : (rows cols r c : ℕ) → r < rows → c < cols → rows * cols ≤ 4096 → rows ≤ 4096 → cols ≤ 4096 → narrow32 (narrow32 (narrow32 r * cols) + narrow32 c) < rows * cols
index_two rows cols r c h k few rows_few cols_few =
    let r_is : narrow32 r ≡ r = omega (arith, h, rows_few) in
    let c_is : narrow32 c ≡ c = omega (arith, k, cols_few) in
    let most : suc r * cols ≤ rows * cols = mul-le-mul_right cols (omega (arith, h)) in
    let product : narrow32 r * cols ≡ r * cols = ap (λ n. n * cols) r_is in
    let small : r * cols ≤ 4096 = omega (arith, most, few) in
    let inner : narrow32 (narrow32 r * cols) ≡ r * cols = ap narrow32 product ∙ narrowed (r * cols) small in
    let whole : narrow32 (narrow32 r * cols) + narrow32 c ≡ r * cols + c = ap (λ n. n + narrow32 c) inner ∙ ap (λ n. r * cols + n) c_is in
    let less : r * cols + c < rows * cols = omega (arith, most, k) in
    let out : narrow32 (narrow32 (narrow32 r * cols) + narrow32 c) ≡ r * cols + c = ap narrow32 whole ∙ narrowed (r * cols + c) (omega (arith, less, few)) in
    omega (arith, out, less)
  where
    narrowed : (n : ℕ) → n ≤ 4096 → narrow32 n ≡ n
    narrowed n small = omega (arith, small)

number_small : (n : Num) → narrow32 n.value ≤ 4096 → narrow32 n.value ≡ n.value
number_small n h = omega (arith, h)

index_within : (array : Span) (f_size : Num) (s_size : Option Num) (first : Num) (second : Option Num) → coordinates_fault array f_size first s_size second ≡ nothing →
    rows_written f_size s_size ≤ 4096 → cols_written f_size s_size ≤ 4096 → rows_written f_size s_size * cols_written f_size s_size ≤ 4096 →
    index_written (cols_written f_size s_size) first second < rows_written f_size s_size * cols_written f_size s_size
index_within array size None first None h rows cols few =
    let same : narrow32 size.value ≡ size.value = number_small size cols in
    index_one size first (is_below size.value first h) same (omega (arith, same, cols))
index_within array rows_of (Some cols_of) first (Some second) h rows cols few =
    let tests = sooner_none (below rows_of.value first) (below cols_of.value second) h in
    let r_same : narrow32 rows_of.value ≡ rows_of.value = number_small rows_of rows in
    let c_same : narrow32 cols_of.value ≡ cols_of.value = number_small cols_of cols in
    let r_less = is_below rows_of.value first tests.0 in
    let c_less = is_below cols_of.value second tests.1 in
    index_two (narrow32 rows_of.value) (narrow32 cols_of.value) first.value second.value (omega (arith, r_less, r_same)) (omega (arith, c_less, c_same)) few rows cols
index_within array size None first (Some second) h rows cols few = absurd (let e : Some (faults.Kind array.at) ≡ nothing = h in cc)
index_within array size (Some c) first None h rows cols few = absurd (let e : Some (faults.Kind array.at) ≡ nothing = h in cc)

-- a cell of a state
cell_within : (state : Span) (plain : Bool) (cells : ℕ) (index : Option Num) → index_fault state plain cells index ≡ nothing → 1 ≤ cells → cells ≤ 4096 → cell_written index < cells
cell_within state true cells None h some few = omega (arith, some)
cell_within state true cells (Some i) h some few = absurd (let e : Some (faults.Kind state.at) ≡ nothing = h in cc)
cell_within state false cells None h some few = absurd (let e : Some (faults.Kind state.at) ≡ nothing = h in cc)
cell_within state false cells (Some i) h some few = let less = is_below cells i h in omega (arith, less)

module _ (text : List ℕ) (names : JobNames) (declared : List ArrayDecl) (l : Lists) (planned : List Array) where
  -- what is known of an array and its plan
  pub record ArrayThere (n : ℕ) (a : ArrayDecl) : Type 0 where
    pub first : ℕ
    pub plan : slice_get planned n ≡ Some (array_planned text names n first a)
    pub told : Sound (Told text names.arrays l n (states_planned text (table_at names n) 0 a.states)) (table_at names n)
    pub laid : StatesLaid 0 a.states (states_planned text (table_at names n) 0 a.states)
    pub few : length a.states ≤ 16
    pub few_cells : cells_of_all a.states ≤ 4096
    pub shape : Shaped a.sizes
    pub room : first + elements_written a.sizes ≤ 4096

  module _ (few : length declared ≤ 8) (sound : Sound (IsBelow (length declared)) names.arrays) (there : (n : ℕ) (a : ArrayDecl) → slice_get declared n ≡ Some a → ArrayThere n a) where
    missing : (xs : List ArrayDecl) (k : ℕ) → slice_get xs k ≡ None → k < length xs → ⊥
    missing [] k e h = let c : k < 0 = h in omega (arith, c)
    missing (x ∷ xs) zero e h = let c : Some x ≡ None = e in cc
    missing (x ∷ xs) (suc k) e h = missing xs k e (let g : k < length xs = omega (arith, h) in g)

    -- an array of a number that a name has
    named : (n : ℕ) (o : Option ArrayDecl) → slice_get declared n ≡ o → n < length declared → (a : ArrayDecl) × (slice_get declared n ≡ Some a)
    named n None is less = absurd (missing declared n is less)
    named n (Some a) is less = (a, is)

    small : (n : ℕ) → n ≤ 1000 → narrow16 n ≡ n
    small n h = omega (arith, h)

    state_kept : (n : ℕ) (a : ArrayDecl) (at : ArrayThere n a) (state : Span) (o : Option Meaning) → ((x : Meaning) → o ≡ Some x → Told text names.arrays l n (states_planned text (table_at names n) 0 a.states) x) → state_fault state o ≡ nothing →
        state_there (number16 (state_meant o)) (slice_get planned n) ≡ true
    state_kept n a at state None told h = absurd (let e : Some (faults.Unknown state.at) ≡ nothing = h in cc)
    state_kept n a at state (Some (meanings.State number declared_at plain first cells)) told h =
        let known = told (meanings.State number declared_at plain first cells) refl in
        let less = slice_get_within (states_planned text (table_at names n) 0 a.states) number known.state known.is in
        let count = at.laid.count in
        let most = at.few in
        let same : narrow16 number ≡ number = small number (omega (arith, less, count, most)) in
        ap (state_there (narrow16 number)) at.plan ∙ lt-ltb (narrow16 number) (length (states_planned text (table_at names n) 0 a.states)) (omega (arith, same, less))
    state_kept n a at state (Some (meanings.Array k)) told h = absurd (let e : Some (faults.Kind state.at) ≡ nothing = h in cc)
    state_kept n a at state (Some (meanings.Entry port k source values)) told h = absurd (let e : Some (faults.Kind state.at) ≡ nothing = h in cc)
    state_kept n a at state (Some (meanings.Reduction port k)) told h = absurd (let e : Some (faults.Kind state.at) ≡ nothing = h in cc)

    cell_kept : (n : ℕ) (a : ArrayDecl) (at : ArrayThere n a) (state : Span) (index : Option Num) (o : Option Meaning) → ((x : Meaning) → o ≡ Some x → Told text names.arrays l n (states_planned text (table_at names n) 0 a.states) x) →
        state_fault state o ≡ nothing → cell_fault state o index ≡ nothing → nat_lt (cell_in index (range_or_none (range_meant o))) (cells_in (states_planned text (table_at names n) 0 a.states)) ≡ true
    cell_kept n a at state index None told h k = absurd (let e : Some (faults.Unknown state.at) ≡ nothing = h in cc)
    cell_kept n a at state index (Some (meanings.State number declared_at plain first cells)) told h k =
        let known = told (meanings.State number declared_at plain first cells) refl in
        let ends = at.laid.ends number known.state known.is in
        let last = ends.0 in
        let some = ends.1 in
        let most = at.few_cells in
        let total = at.laid.cells in
        let at_is = known.at_is in
        let cells_is = known.cells_is in
        let few_cells : narrow32 cells ≤ 4096 = omega (arith, last, most, cells_is) in
        let cells_same : narrow32 cells ≡ cells = omega (arith, few_cells) in
        let less = cell_within state plain cells index k (omega (arith, some, cells_is)) (omega (arith, few_cells, cells_same)) in
        lt-ltb (narrow32 (narrow32 first + cell_written index)) (cells_in (states_planned text (table_at names n) 0 a.states)) (omega (arith, last, at_is, cells_is, cells_same, less, total))
    cell_kept n a at state index (Some (meanings.Array m)) told h k = absurd (let e : Some (faults.Kind state.at) ≡ nothing = h in cc)
    cell_kept n a at state index (Some (meanings.Entry port m source values)) told h k = absurd (let e : Some (faults.Kind state.at) ≡ nothing = h in cc)
    cell_kept n a at state index (Some (meanings.Reduction port m)) told h k = absurd (let e : Some (faults.Kind state.at) ≡ nothing = h in cc)

    element_kept : (n : ℕ) (a : ArrayDecl) (at : ArrayThere n a) (array : Span) (element : Coordinates) → element_fault array (slice_get declared n) element ≡ nothing → slice_get declared n ≡ Some a →
        let one = array_planned text names n at.first a in (one.first ≤ element_in element one) × (element_in element one < one.first + size_of one)
    element_kept n a at array element h is =
        let one = array_planned text names n at.first a in
        let fault : coordinates_fault array a.sizes.first element.first a.sizes.second element.second ≡ nothing = sym (ap (λ o. element_fault array o element) is) ∙ h in
        let size = at.shape.size in
        let room = at.room in
        let few_elements : rows_planned a.sizes * cols_planned a.sizes ≤ 4096 = omega (arith, size, room) in
        let less : index_written (cols_planned a.sizes) element.first element.second < rows_planned a.sizes * cols_planned a.sizes =
        index_within array a.sizes.first a.sizes.second element.first element.second fault at.shape.rows.1 at.shape.cols.1 few_elements in
        by at.first (index_written (cols_planned a.sizes) element.first element.second) (rows_planned a.sizes * cols_planned a.sizes) less (omega (arith, size, room))
      where
        by : (b i n : ℕ) → i < n → b + n ≤ 4096 → (b ≤ narrow32 (b + i)) × (narrow32 (b + i) < b + n)
        by b i n less room = let same : narrow32 (b + i) ≡ b + i = omega (arith, less, room) in (omega (arith, same), omega (arith, same, less))

    over_kept : (array state : Span) (o : Option ℕ) → array_number text names.arrays array ≡ o → over_fault text names array state o ≡ nothing →
        state_there (number16 (state_meant (meant_in names o (bytes_at text state)))) (slice_get planned (number16 o)) ≡ true
    over_kept array state None is h = absurd (let e : Some (faults.Unknown array.at) ≡ nothing = h in cc)
    over_kept array state (Some n) is h =
        let less : n < length declared = array_below text (length declared) n names.arrays array sound is in
        let a = named n (slice_get declared n) refl less in
        let at = there n a.0 a.1 in
        let n_is : narrow16 n ≡ n = small n (omega (arith, less, few)) in
        let meant = lookup (table_at names n) (bytes_at text state) in
        let fault : state_fault state meant ≡ nothing = sym (ap (state_fault state) (meant_same names n (bytes_at text state))) ∙ h in
        ap (λ k. state_there (number16 (state_meant meant)) (slice_get planned k)) n_is ∙ state_kept n a.0 at state meant (at.told (bytes_at text state)) fault

    at_kept : (array : Span) (element : Coordinates) (state : Span) (index : Option Num) (o : Option ℕ) → array_number text names.arrays array ≡ o → at_fault text names declared array element state index o ≡ nothing →
        list_any (cell_of_array (element_or_none element (p.array_meant planned o)).0 (cell_in index (range_or_none (range_meant (meant_in names o (bytes_at text state)))))) planned ≡ true
    at_kept array element state index None is h = absurd (let e : Some (faults.Unknown array.at) ≡ nothing = h in cc)
    at_kept array element state index (Some n) is h =
        let less : n < length declared = array_below text (length declared) n names.arrays array sound is in
        let a = named n (slice_get declared n) refl less in
        let at = there n a.0 a.1 in
        let one = array_planned text names n at.first a.0 in
        let meant = lookup (table_at names n) (bytes_at text state) in
        let its = member_meaning names n (bytes_at text state) in
        let its_is : its ≡ meant = meant_same names n (bytes_at text state) in
        let tests = sooner_none (sooner (state_fault state its) (element_fault array (slice_get declared n) element)) (cell_fault state its index) h in
        let more = sooner_none (state_fault state its) (element_fault array (slice_get declared n) element) tests.0 in
        let fault : state_fault state meant ≡ nothing = sym (ap (state_fault state) its_is) ∙ more.0 in
        let cell = cell_kept n a.0 at state index meant (at.told (bytes_at text state)) fault (sym (ap (λ m. cell_fault state m index) its_is) ∙ tests.1) in
        let place = element_kept n a.0 at array element more.1 a.1 in
        let c = cell_in index (range_or_none (range_meant meant)) in
        let e = element_in element one in
        ap (λ o. list_any (cell_of_array (element_or_none element o).0 c) planned) at.plan
        ∙ some_item (cell_of_array e c) planned n one at.plan
        (both (nat_le one.first e) (nat_lt e (one.first + size_of one) && nat_lt c (cells_in one.states)) (le-leb one.first e place.0)
        (both (nat_lt e (one.first + size_of one)) (nat_lt c (cells_in one.states)) (lt-ltb e (one.first + size_of one) place.1) cell))

    answer_kept : (x : AnswerDecl) → answer_fault text names declared x ≡ nothing → answer_in_range planned (answer_planned text names planned x) ≡ true
    unfolding member
    answer_kept (answers.Over at how array state) h =
        let tests = sooner_none (sooner (name_fault array) (name_fault state)) (over_fault text names array state (array_number text names.arrays array)) h in
        over_kept array state (array_number text names.arrays array) refl tests.1
    answer_kept (answers.At at array element state index) h =
        let tests = sooner_none (sooner (name_fault array) (name_fault state)) (at_fault text names declared array element state index (array_number text names.arrays array)) h in
        at_kept array element state index (array_number text names.arrays array) refl tests.1

    each_kept : (xs : List AnswerDecl) → faultless (answer_fault text names declared) xs ≡ true → list_all (answer_in_range planned) (map (answer_planned text names planned) xs) ≡ true
    each_kept [] h = refl
    each_kept (x ∷ more) h =
        let t = and_parts _ _ h in
        both (answer_in_range planned (answer_planned text names planned x)) (list_all (answer_in_range planned) (map (answer_planned text names planned) more)) (answer_kept x (is_none-none (answer_fault text names declared x) t.0)) (each_kept more t.1)

    -- where no answer breaks a rule, none was found before, and each answers something that is there
    pub answers_kept : (xs : List AnswerDecl) → faultless (answer_fault text names declared) xs ≡ true → list_all (answer_in_range planned) (map (answer_planned text names planned) xs) ≡ true
    answers_kept xs h = each_kept xs h

pub answers_none : (text : List ℕ) (names : JobNames) (job : Job) (found : Found) → answers_found text names job found ≡ nothing → (found ≡ nothing) × (faultless (answer_fault text names job.arrays) job.answers ≡ true)
unfolding answers_found
answers_none text names job found h = first_none (answer_fault text names job.arrays) found job.answers h
