-- Where no count is too great, elements and cells are numbered in text order, and all is within the limits of a plan.
use Rattle.std.proofs.Common.{◌≡◌, ℕ, zero, suc, ◌+◌, ◌-◌, ◌*◌, ◌<◌, ◌≤◌, true, false, List, [], ◌∷◌, length, map, drop, refl, ap, sym, ◌∙◌, subst, arith, Option, None, Some}
use Rattle.std.specs.Prelude.{◌&&◌, ◌||◌, ◌==◌, not, min, nat_le, nat_lt, is_none, slice_get}
use Rattle.std.specs.List.{AllByRecursion, list_all}
use Rattle.std.proofs.lemmas.Bool.{and_parts, eq-eqb, le-leb, leb-true, ltb-false, ltb-true}
use Rattle.std.proofs.lemmas.List.{length-drop, length-take}
use Rattle.chare_base.specs.declared.plan.Array.{Array}
use Rattle.chare_base.specs.declared.plan.State.{State}
use Rattle.chare_base.specs.Layout.{layout_holds, numbered_from, placed_from}
use Rattle.chare_base.specs.Limits.{array_fits, arrays_fit, between, name_fits, shape_fits, state_fits, states_fit, step_fits, steps_fit}
use Rattle.chare_base.specs.Overlap.{state_range}
use Rattle.chare_base.specs.Sizes.{all_cells_in, cells_in, elements_in, size_of}
use Rattle.chare_base.specs.Uses.{meet}
use Rattle.chare_base.specs.Costs.{capped}
use Rattle.job_tree.specs.declared.token.Num.{Num}
use Rattle.job_tree.specs.declared.token.Span.{Span}
use Rattle.job_tree.specs.declared.tree.ArrayDecl.{ArrayDecl}
use Rattle.job_tree.specs.declared.tree.Coordinates.{Coordinates}
use Rattle.job_tree.specs.declared.tree.PartDecl.{PartDecl}
use Rattle.job_tree.specs.declared.tree.StateDecl.{StateDecl}
use Rattle.job_tree.specs.declared.tree.StepBody.{StepBody}
use Rattle.job_tree.specs.declared.tree.StepBody.TheVariants as bodies
use Rattle.job_tree.specs.declared.tree.StepDecl.{StepDecl}
use Rattle.job_rules.specs.declared.fault.CheckFault.TheVariants.{Limit, Twice}
use Rattle.job_rules.specs.declared.fault.LimitKind.TheVariants.{Name}
use Rattle.job_rules.specs.declared.tables.Counts.{Counts}
use Rattle.job_rules.specs.declared.tables.JobNames.{JobNames}
use Rattle.job_rules.specs.Bounds.{outside, outside_if, size_fault, state_bound}
use Rattle.job_rules.specs.Declarations.{is_array, is_state}
use Rattle.job_rules.specs.Faults.{Found, fault_if, name_fault, nothing}
use Rattle.job_rules.specs.Limits.{elements_written, size_written}
use Rattle.job_rules.specs.Names.{Known, bytes_at, lookup}
use Rattle.job_rules.specs.PlannedArrays.{array_planned, arrays_from, cols_planned, rows_planned, size_planned, state_planned, states_planned}
use Rattle.job_rules.specs.Numbers.{narrow32}
use Rattle.job_rules.specs.PlannedSteps.{body_planned, part_planned, step_planned}
use Rattle.job_rules.specs.Tables.{cells_written, counts_after, member_meaning, table_at}
use Rattle.job_rules.proofs.Counting.{ArrayBounded, ArrayCounted, ArraysBounded, ArraysCounted, both, cells_of_all, few_parts, inside, parts_in}
use Rattle.job_rules.proofs.Declared.{ArraysKept, StatesKept}
use Rattle.job_rules.proofs.Meant.{Apart}
use Rattle.job_rules.proofs.Sooner.{faultless, is_none-none, sooner_none, unbroken}

-- ---- names

-- a name has a byte, and lies in the text
abbrev pub Lies : List ℕ → Span → Type 0
Lies text name = (1 ≤ name.len) × (name.at + name.len ≤ length text)

pub between_is : (low high n : ℕ) → low ≤ n → n ≤ high → between low high n ≡ true
between_is low high n h k = both (nat_le low n) (nat_le n high) (le-leb low n h) (le-leb n high k)

pub name_kept : (text : List ℕ) (name : Span) → Lies text name → name_fault name ≡ nothing → name_fits (bytes_at text name) ≡ true
name_kept text name lies h =
    let most : name.len ≤ 32 = ltb-false 32 name.len (unbroken (nat_lt 32 name.len) (Limit Name name.len name.at) h) in
    let some = lies.0 in
    let last = lies.1 in
    let cut : length (bytes_at text name) ≡ min name.len (length (drop name.at text)) = length-take name.len (drop name.at text) in
    let rest : length (drop name.at text) ≡ length text - name.at = length-drop name.at text in
    between_is 1 32 (length (bytes_at text name)) (omega (arith, cut, rest, some, last, most)) (omega (arith, cut, most))

-- ---- states

abbrev pub StatesNamed : List ℕ → List StateDecl → Type 0
StatesNamed text ss = AllByRecursion (λ (s : StateDecl). Lies text s.name) ss

cells_inside : (o : Option Num) → outside_if 1 4096 o ≡ nothing → (1 ≤ cells_written o) × (cells_written o ≤ 4096)
cells_inside None h = (omega arith, omega arith)
cells_inside (Some n) h = inside 1 4096 n h

all_faultless : {A : Type 0} (f : A → Found) (x : A) (more : List A) → faultless f (x ∷ more) ≡ true → (f x ≡ nothing) × (faultless f more ≡ true)
all_faultless f x more h = let p = and_parts (is_none (f x)) (faultless f more) h in (is_none-none (f x) p.0, p.1)

small : (n : ℕ) → n ≤ 1048576 → narrow32 n ≡ n
small n h = omega (arith, h)

uncapped : (n : ℕ) → n ≤ 1048576 → capped n ≡ n
uncapped n h = omega (arith, h)

-- what is known of states whose cells begin at this place
pub record StatesLaid (at : ℕ) (ss : List StateDecl) (planned : List State) : Type 0 where
  pub placed : placed_from at planned ≡ true
  pub count : length planned ≡ length ss
  pub cells : cells_in planned ≡ cells_of_all ss
  pub beyond : (k : ℕ) (t : State) → slice_get planned k ≡ Some t → at ≤ t.at
  pub apart : (j k : ℕ) (s t : State) → slice_get planned j ≡ Some s → slice_get planned k ≡ Some t → meet (state_range s) (state_range t) ≡ true → j ≡ k
  pub one_cell : (k : ℕ) (t : State) → slice_get planned k ≡ Some t → t.plain ≡ true → t.cells ≡ 1
  pub ends : (k : ℕ) (t : State) → slice_get planned k ≡ Some t → (t.at + t.cells ≤ at + cells_of_all ss) × (1 ≤ t.cells)

plain_cells : (o : Option Num) → is_none o ≡ true → narrow32 (cells_written o) ≡ 1
plain_cells None h = refl
plain_cells (Some n) h = absurd (let e : false ≡ true = h in cc)

not_met : (s t : State) → s.at + s.cells ≤ t.at → meet (state_range s) (state_range t) ≡ true → ⊥
not_met s t h m =
    let p = and_parts (nat_lt s.at (t.at + t.cells)) (nat_lt t.at (s.at + s.cells)) m in
    let less : t.at < s.at + s.cells = ltb-true t.at (s.at + s.cells) p.1 in
    omega (arith, h, less)

not_met_back : (s t : State) → s.at + s.cells ≤ t.at → meet (state_range t) (state_range s) ≡ true → ⊥
not_met_back s t h m =
    let p = and_parts (nat_lt t.at (s.at + s.cells)) (nat_lt s.at (t.at + t.cells)) m in
    let less : t.at < s.at + s.cells = ltb-true t.at (s.at + s.cells) p.0 in
    omega (arith, h, less)

module _ (text : List ℕ) (table : List Known) where
  pub states_laid : (at : ℕ) (ss : List StateDecl) → at + cells_of_all ss ≤ 4096 → faultless state_bound ss ≡ true → StatesLaid at ss (states_planned text table at ss)
  states_laid at [] few fine = record {
    placed = refl;
    count = refl;
    cells = refl;
    beyond = λ k t is. absurd (let e : None ≡ Some t = is in cc);
    apart = λ j k s t a b h. absurd (let e : None ≡ Some s = a in cc);
    one_cell = λ k t is h. absurd (let e : None ≡ Some t = is in cc);
    ends = λ k t is. absurd (let e : None ≡ Some t = is in cc);
  }
  states_laid at (x ∷ more) few fine =
      let c = cells_written x.cells in
      let one = state_planned text table at x in
      let next = capped (at + c) in
      let others = states_planned text table next more in
      let tests = all_faultless state_bound x more fine in
      let bound = cells_inside x.cells tests.0 in
      let next_is : next ≡ at + c = uncapped (at + c) (omega (arith, few)) in
      let rest = states_laid next more (omega (arith, few, next_is)) tests.1 in
      let at_is : narrow32 at ≡ at = small at (omega (arith, few)) in
      let c_is : narrow32 c ≡ c = small c (omega (arith, few)) in
      let end_is : at + narrow32 c ≡ next = omega (arith, c_is, next_is) in
      record {
        placed = both (narrow32 at == at) (placed_from (at + narrow32 c) others) (eq-eqb (narrow32 at) at at_is) (ap (λ n. placed_from n others) end_is ∙ rest.placed);
        count = ap suc rest.count;
        cells = (let e = rest.cells in omega (arith, c_is, e));
        beyond = beyond one others at_is (λ k t is. let b = rest.beyond k t is in omega (arith, b, next_is));
        apart = apart one others (let e : one.at + one.cells ≤ next = omega (arith, at_is, c_is, next_is) in e) rest.beyond rest.apart;
        one_cell = one_cell one others (plain_cells x.cells) rest.one_cell;
        ends = (let low = bound.0 in ends one others
            (omega (arith, at_is, c_is)) (omega (arith, low, c_is))
            (λ k t is. (let e = rest.ends k t is in (let f = e.0 in omega (arith, f, next_is), e.1))));
      }
    where
      beyond : (one : State) (others : List State) → one.at ≡ at → ((k : ℕ) (t : State) → slice_get others k ≡ Some t → at ≤ t.at) → (k : ℕ) (t : State) → slice_get (one ∷ others) k ≡ Some t → at ≤ t.at
      beyond one others h rest zero t is = let same : at ≡ t.at = (let e : Some one ≡ Some t = is in sym h ∙ ap (λ (z : State). z.at) (let f : one ≡ t = cc in f)) in omega (arith, same)
      beyond one others h rest (suc k) t is = rest k t is

      apart : (one : State) (others : List State) {n : ℕ} → one.at + one.cells ≤ n → ((k : ℕ) (t : State) → slice_get others k ≡ Some t → n ≤ t.at) →
          ((j k : ℕ) (s t : State) → slice_get others j ≡ Some s → slice_get others k ≡ Some t → meet (state_range s) (state_range t) ≡ true → j ≡ k) →
          (j k : ℕ) (s t : State) → slice_get (one ∷ others) j ≡ Some s → slice_get (one ∷ others) k ≡ Some t → meet (state_range s) (state_range t) ≡ true → j ≡ k
      apart one others h far rest zero zero s t a b m = refl
      apart one others h far rest zero (suc k) s t a b m =
          let same : one ≡ s = (let e : Some one ≡ Some s = a in cc) in
          let beyond_it = far k t b in
          absurd (not_met one t (omega (arith, h, beyond_it)) (ap (λ (z : State). meet (state_range z) (state_range t)) same ∙ m))
      apart one others h far rest (suc j) zero s t a b m =
          let same : one ≡ t = (let e : Some one ≡ Some t = b in cc) in
          let beyond_it = far j s a in
          absurd (not_met_back one s (omega (arith, h, beyond_it)) (ap (λ (z : State). meet (state_range s) (state_range z)) same ∙ m))
      apart one others h far rest (suc j) (suc k) s t a b m = ap suc (rest j k s t a b m)

      ends : (one : State) (others : List State) → one.at + one.cells ≤ at + cells_of_all (x ∷ more) → 1 ≤ one.cells → ((k : ℕ) (t : State) → slice_get others k ≡ Some t → (t.at + t.cells ≤ at + cells_of_all (x ∷ more)) × (1 ≤ t.cells)) →
          (k : ℕ) (t : State) → slice_get (one ∷ others) k ≡ Some t → (t.at + t.cells ≤ at + cells_of_all (x ∷ more)) × (1 ≤ t.cells)
      ends one others h low rest zero t is =
          let same : one ≡ t = (let e : Some one ≡ Some t = is in cc) in
          subst (λ (z : State). (z.at + z.cells ≤ at + cells_of_all (x ∷ more)) × (1 ≤ z.cells)) same (h, low)
      ends one others h low rest (suc k) t is = rest k t is

      one_cell : (one : State) (others : List State) → (one.plain ≡ true → one.cells ≡ 1) → ((k : ℕ) (t : State) → slice_get others k ≡ Some t → t.plain ≡ true → t.cells ≡ 1) →
          (k : ℕ) (t : State) → slice_get (one ∷ others) k ≡ Some t → t.plain ≡ true → t.cells ≡ 1
      one_cell one others h rest zero t is p =
          let same : one ≡ t = (let e : Some one ≡ Some t = is in cc) in
          subst (λ (z : State). z.plain ≡ true → z.cells ≡ 1) same h p
      one_cell one others h rest (suc k) t is p = rest k t is p

  plain_or_one : (o : Option Num) → (not (is_none o) || narrow32 (cells_written o) == 1) ≡ true
  plain_or_one None = refl
  plain_or_one (Some n) = refl

  states_fit_all : (names : JobNames) (array number at : ℕ) (ss : List StateDecl) → at + cells_of_all ss ≤ 4096 → faultless state_bound ss ≡ true → StatesNamed text ss → StatesKept text names array number ss →
      list_all state_fits (states_planned text table at ss) ≡ true
  states_fit_all names array number at [] few fine named kept = refl
  states_fit_all names array number at (x ∷ more) few fine named kept =
      let c = cells_written x.cells in
      let next = capped (at + c) in
      let others = states_planned text table next more in
      let one = state_planned text table at x in
      let tests = all_faultless state_bound x more fine in
      let bound = cells_inside x.cells tests.0 in
      let next_is : next ≡ at + c = uncapped (at + c) (omega (arith, few)) in
      let low : 1 ≤ c = bound.0 in
      let high : c ≤ 4096 = bound.1 in
      let fault = sooner_none (name_fault x.name) (fault_if (not (is_state number (member_meaning names array (bytes_at text x.name)))) (Twice x.name.at)) kept.0 in
      both (state_fits one) (list_all state_fits others)
      (both (name_fits one.name && between 1 4096 one.cells) (not one.plain || one.cells == 1)
      (both (name_fits one.name) (between 1 4096 one.cells) (name_kept text x.name named.0 fault.0) (between_is 1 4096 (narrow32 c) (omega (arith, low)) (omega (arith, high))))
      (plain_or_one x.cells))
      (states_fit_all names array (suc number) next more (omega (arith, few, next_is)) tests.1 named.1 kept.1)

-- ---- steps

-- an overlap has parts
abbrev pub BodyFull : StepBody → Type 0
BodyFull (bodies.Overlap at parts) = 1 ≤ length parts
BodyFull _ = Unit {0}

module _ (text : List ℕ) (names : JobNames) (table : List Known) where
  length_map : (parts : List PartDecl) → length (map (part_planned text names table) parts) ≡ length parts
  length_map [] = refl
  length_map (p ∷ more) = ap suc (length_map more)

  body_fits : (b : StepBody) → BodyFull b → nat_le (parts_in b) 8 ≡ true → between 1 8 (length (body_planned text names table b)) ≡ true
  body_fits (bodies.Block block) full few = refl
  body_fits (bodies.Part p) full few = refl
  body_fits (bodies.Overlap at parts) full few =
      let most : length parts ≤ 8 = leb-true (length parts) 8 few in
      let same = length_map parts in
      between_is 1 8 (length (map (part_planned text names table) parts)) (omega (arith, full, same)) (omega (arith, most, same))

  steps_fit_all : (ss : List StepDecl) → AllByRecursion (λ (s : StepDecl). BodyFull s.body) ss → list_all few_parts ss ≡ true → list_all step_fits (map (step_planned text names table) ss) ≡ true
  steps_fit_all [] full few = refl
  steps_fit_all (s ∷ more) full few =
      let p = and_parts (few_parts s) (list_all few_parts more) few in
      both (step_fits (step_planned text names table s)) (list_all step_fits (map (step_planned text names table) more)) (body_fits s.body full.0 p.0) (steps_fit_all more full.1 p.1)

  length_steps : (ss : List StepDecl) → length (map (step_planned text names table) ss) ≡ length ss
  length_steps [] = refl
  length_steps (s ∷ more) = ap suc (length_steps more)

-- ---- arrays

pub record ArrayNamed (text : List ℕ) (a : ArrayDecl) : Type 0 where
  pub name : Lies text a.name
  pub states : StatesNamed text a.states
  pub some_states : 1 ≤ length a.states
  pub some_steps : 1 ≤ length a.steps
  pub full : AllByRecursion (λ (s : StepDecl). BodyFull s.body) a.steps

-- the shape of an array whose sizes are within their ranges
pub record Shaped (c : Coordinates) : Type 0 where
  pub rows : (1 ≤ rows_planned c) × (rows_planned c ≤ 4096)
  pub cols : (1 ≤ cols_planned c) × (cols_planned c ≤ 4096)
  pub size : rows_planned c * cols_planned c ≡ elements_written c
  pub flat : (not (is_none c.second) || rows_planned c == 1) ≡ true

written_small : (n : Num) → outside 1 4096 n ≡ nothing → (1 ≤ n.value) × (n.value ≤ 4096) × (narrow32 n.value ≡ n.value)
written_small n h = let i = inside 1 4096 n h in let high = i.1 in (i.0, i.1, omega (arith, high))

product_small : (a b : ℕ) → capped (a * b) ≤ 4096 → capped (a * b) ≡ a * b
product_small a b h = omega (arith, h)

shaped_by : (first : Num) (second : Option Num) → outside 1 4096 first ≡ nothing → size_fault second ≡ nothing → size_written first second ≤ 4096 → Shaped (record { first = first; second = second })
shaped_by first None h k few =
    let f = written_small first h in
    let low = f.0 in
    let high = f.1 in
    let same = f.2 in
    record {
      rows = (omega arith, omega arith);
      cols = (omega (arith, low, same), omega (arith, high, same));
      size = omega (arith, same);
      flat = refl;
    }
shaped_by first (Some second) h k few =
    let f = written_small first h in
    let g = written_small second k in
    let f_low = f.0 in
    let f_high = f.1 in
    let f_same = f.2 in
    let g_low = g.0 in
    let g_high = g.1 in
    let g_same = g.2 in
    record {
      rows = (omega (arith, f_low, f_same), omega (arith, f_high, f_same));
      cols = (omega (arith, g_low, g_same), omega (arith, g_high, g_same));
      size = ap (λ n. n * narrow32 second.value) f_same ∙ ap (λ n. first.value * n) g_same ∙ sym (product_small first.value second.value few);
      flat = refl;
    }

pub shaped : (c : Coordinates) → size_fault (Some c.first) ≡ nothing → size_fault c.second ≡ nothing → elements_written c ≤ 4096 → Shaped c
shaped c h k few = shaped_by c.first c.second h k few

pub counted_low : (n e all : ℕ) (arrays : List ArrayDecl) → ArraysCounted n e all arrays → (n + length arrays ≤ 8) × (e ≤ 4096) × (all ≤ 1048576)
counted_low n e all [] h = (let k = h.0 in omega (arith, k), h.1, h.2)
counted_low n e all (a ∷ more) h =
    let rest = counted_low (suc n) (e + elements_written a.sizes) (all + elements_written a.sizes * cells_of_all a.states) more h.1 in
    let x = rest.0 in
    let y = rest.1 in
    let z = rest.2 in
    (omega (arith, x), omega (arith, y), omega (arith, z))

pub few_arrays : (arrays : List ArrayDecl) → ArraysCounted 0 0 0 arrays → length arrays ≤ 8
few_arrays arrays h = let k = (counted_low 0 0 0 arrays h).0 in omega (arith, k)

-- what is known of these arrays, of which this is the first element's number
pub record ArraysLaid (first all : ℕ) (arrays : List ArrayDecl) (planned : List Array) : Type 0 where
  pub numbered : numbered_from first planned ≡ true
  pub placed : list_all (λ (a : Array). placed_from 0 a.states) planned ≡ true
  pub fits : list_all array_fits planned ≡ true
  pub elements : first + elements_in planned ≤ 4096
  pub cells : all + all_cells_in planned ≤ 1048576
  pub count : length planned ≡ length arrays

module _ (text : List ℕ) (names : JobNames) (declared : List ArrayDecl) where
  array_fits_one : (number first : ℕ) (a : ArrayDecl) (laid : StatesLaid 0 a.states (states_planned text (table_at names number) 0 a.states)) → ArrayCounted a → ArrayBounded a → ArrayNamed text a → Shaped a.sizes → elements_written a.sizes ≤ 4096 →
      name_fault a.name ≡ nothing → StatesKept text names number 0 a.states → array_fits (array_planned text names number first a) ≡ true
  array_fits_one number first a laid counted bounded named shape few fault kept =
      let one = array_planned text names number first a in
      let cells = counted.cells in
      let states_count = laid.count in
      let cells_is = laid.cells in
      let few_states = counted.states in
      let some_states = named.some_states in
      let steps_count = length_steps text names (table_at names number) a.steps in
      let few_steps = counted.steps in
      let some_steps = named.some_steps in
      let size_is = shape.size in
      let less : 0 + cells_of_all a.states ≤ 4096 = omega (arith, cells) in
      let all_states = states_fit_all text (table_at names number) names number 0 0 a.states less bounded.states named.states kept in
      let shape_is : shape_fits one ≡ true =
      both (between 1 4096 one.rows && between 1 4096 one.cols && (not one.flat || one.rows == 1)) (nat_le (size_of one) 4096)
      (both (between 1 4096 one.rows && between 1 4096 one.cols) (not one.flat || one.rows == 1)
      (both (between 1 4096 one.rows) (between 1 4096 one.cols) (between_is 1 4096 one.rows shape.rows.0 shape.rows.1) (between_is 1 4096 one.cols shape.cols.0 shape.cols.1)) shape.flat)
      (le-leb (size_of one) 4096 (omega (arith, size_is, few))) in
      let states_is : states_fit one.states ≡ true =
      both (between 1 16 (length one.states) && list_all state_fits one.states) (nat_le (cells_in one.states) 4096)
      (both (between 1 16 (length one.states)) (list_all state_fits one.states)
      (between_is 1 16 (length one.states) (omega (arith, states_count, some_states)) (omega (arith, states_count, few_states))) all_states)
      (le-leb (cells_in one.states) 4096 (omega (arith, cells_is, cells))) in
      let steps_is : steps_fit one.steps ≡ true =
      both (between 1 32 (length one.steps)) (list_all step_fits one.steps)
      (between_is 1 32 (length one.steps) (omega (arith, steps_count, some_steps)) (omega (arith, steps_count, few_steps))) (steps_fit_all text names (table_at names number) a.steps named.full counted.parts) in
      both (name_fits one.name && shape_fits one && states_fit one.states) (steps_fit one.steps)
      (both (name_fits one.name && shape_fits one) (states_fit one.states)
      (both (name_fits one.name) (shape_fits one) (name_kept text a.name named.name fault) shape_is) states_is) steps_is

  pub states_of_laid : (number : ℕ) (a : ArrayDecl) → ArrayCounted a → ArrayBounded a → StatesLaid 0 a.states (states_planned text (table_at names number) 0 a.states)
  states_of_laid number a counted bounded = let c = counted.cells in states_laid text (table_at names number) 0 a.states (omega (arith, c)) bounded.states

  pub states_apart : (number : ℕ) (a : ArrayDecl) → ArrayCounted a → ArrayBounded a → Apart (states_planned text (table_at names number) 0 a.states)
  states_apart number a counted bounded = let l = states_of_laid number a counted bounded in record { apart = l.apart; one_cell = l.one_cell }

  array_cells : (number first all : ℕ) (a : ArrayDecl) (x y z : ℕ) → x ≡ y → z ≡ cells_of_all a.states → all + y * cells_of_all a.states ≡ all + x * z
  array_cells number first all a x y z h k = ap (λ n. all + n * cells_of_all a.states) (sym h) ∙ ap (λ n. all + x * n) (sym k)

  pub arrays_laid : (number first all : ℕ) (counts : Counts) (arrays : List ArrayDecl) → ArraysCounted number first all arrays → ArraysBounded arrays → AllByRecursion (ArrayNamed text) arrays →
      ArraysKept text names declared number counts arrays → ArraysLaid first all arrays (arrays_from text names number first arrays)
  arrays_laid number first all counts [] counted bounded named kept =
      let e = counted.1 in
      let c = counted.2 in
      record { numbered = refl; placed = refl; fits = refl; elements = omega (arith, e); cells = omega (arith, c); count = refl }
  arrays_laid number first all counts (a ∷ more) counted bounded named kept =
      let one = array_planned text names number first a in
      let size = elements_written a.sizes in
      let next = narrow32 (first + size_planned a.sizes) in
      let others = arrays_from text names (suc number) next more in
      let low = counted_low (suc number) (first + size) (all + size * cells_of_all a.states) more counted.1 in
      let low_elements = low.1 in
      let low_cells = low.2 in
      let few : size ≤ 4096 = omega (arith, low_elements) in
      let shape = shaped a.sizes bounded.0.first bounded.0.second few in
      let size_is = shape.size in
      let next_is : next ≡ first + size = omega (arith, size_is, low_elements) in
      let laid = states_of_laid number a counted.0 bounded.0 in
      let fault = sooner_none (name_fault a.name) (fault_if (not (is_array number (lookup names.arrays (bytes_at text a.name)))) (Twice a.name.at)) kept.0.0 in
      let rest = arrays_laid (suc number) (first + size) (all + size * cells_of_all a.states) (counts_after counts a.members) more counted.1 bounded.1 named.1 kept.1 in
      let moved : ArraysLaid (first + size) (all + size * cells_of_all a.states) more others =
      subst (λ n. ArraysLaid (first + size) (all + size * cells_of_all a.states) more (arrays_from text names (suc number) n more)) (sym next_is) rest in
      let own = size_of one in
      let own_is : own ≡ size = size_is in
      let cells_is : all + size * cells_of_all a.states ≡ all + own * cells_in one.states = array_cells number first all a own size (cells_in one.states) own_is laid.cells in
      let elements = moved.elements in
      let cells = moved.cells in
      record {
        numbered = both (one.first == first) (numbered_from (first + own) others) (eq-eqb first first refl) (ap (λ n. numbered_from (first + n) others) own_is ∙ moved.numbered);
        placed = both (placed_from 0 one.states) (list_all (λ (x : Array). placed_from 0 x.states) others) laid.placed moved.placed;
        fits = both (array_fits one) (list_all array_fits others) (array_fits_one number first a laid counted.0 bounded.0 named.0 shape few fault.0 kept.0.1) moved.fits;
        elements = omega (arith, elements, own_is);
        cells = omega (arith, cells, cells_is);
        count = ap suc moved.count;
      }

  -- the arrays of the plan are within their limits, and numbered in text order
  pub arrays_kept_whole : (arrays : List ArrayDecl) → ArraysLaid 0 0 arrays (arrays_from text names 0 0 arrays) → length arrays ≤ 8 → 1 ≤ length arrays →
      (arrays_fit (arrays_from text names 0 0 arrays) ≡ true) × (layout_holds (arrays_from text names 0 0 arrays) ≡ true)
  unfolding layout_holds
  arrays_kept_whole arrays laid few some =
      let planned = arrays_from text names 0 0 arrays in
      let count = laid.count in
      let elements = laid.elements in
      let cells = laid.cells in (
        both (between 1 8 (length planned) && list_all array_fits planned && nat_le (elements_in planned) 4096) (nat_le (all_cells_in planned) 1048576)
            (both (between 1 8 (length planned) && list_all array_fits planned) (nat_le (elements_in planned) 4096)
            (both (between 1 8 (length planned)) (list_all array_fits planned) (between_is 1 8 (length planned) (omega (arith, count, some)) (omega (arith, count, few))) laid.fits)
            (le-leb (elements_in planned) 4096 (omega (arith, elements)))) (le-leb (all_cells_in planned) 1048576 (omega (arith, cells))),
        both (numbered_from 0 planned) (list_all (λ (a : Array). placed_from 0 a.states) planned) laid.numbered laid.placed,
      )
