-- Where no count is too great, and no written number outside its range.
use Rattle.std.proofs.Common.{◌≡◌, ℕ, suc, ◌+◌, ◌*◌, ◌<◌, ◌≤◌, Bool, true, false, List, [], ◌∷◌, length, refl, ap, ◌∙◌, arith, Some}
use Rattle.std.specs.Prelude.{◌&&◌, not, nat_lt, nat_le}
use Rattle.std.specs.List.{list_all}
use Rattle.std.proofs.lemmas.Bool.{and_parts, le-leb, leb-true, ltb-false}
use Rattle.chare_base.specs.Costs.{capped}
use Rattle.job_tree.specs.declared.token.Num.{Num}
use Rattle.job_tree.specs.declared.tree.AnswerDecl.{AnswerDecl}
use Rattle.job_tree.specs.declared.tree.ArrayDecl.{ArrayDecl}
use Rattle.job_tree.specs.declared.tree.Job.{Job}
use Rattle.job_tree.specs.declared.tree.MemberDecl.{MemberDecl}
use Rattle.job_tree.specs.declared.tree.PartDecl.{PartDecl}
use Rattle.job_tree.specs.declared.tree.StateDecl.{StateDecl}
use Rattle.job_tree.specs.declared.tree.StepBody.{StepBody}
use Rattle.job_tree.specs.declared.tree.StepBody.TheVariants as bodies
use Rattle.job_tree.specs.declared.tree.StepDecl.{StepDecl}
use Rattle.job_rules.specs.declared.fault.CheckFault.TheVariants.{Bound, Limit}
use Rattle.job_rules.specs.declared.fault.LimitKind.{LimitKind}
use Rattle.job_rules.specs.declared.fault.LimitKind.TheVariants.{Arrays, States, Entries, Steps, Parts, Answers, Elements, Cells, AllCells, Cost}
use Rattle.job_rules.specs.Bounds.{array_bounds, arrays_bounds, bounds_found, member_bound, outside, size_fault, state_bound}
use Rattle.job_rules.specs.Costs.{step_cost}
use Rattle.job_rules.specs.Faults.{Found, first_of, nothing, sooner}
use Rattle.job_rules.specs.Limits.{answer_over, answered_at, answers_over, array_over, arrays_over, body_over, elements_written, limits_found, members_over, over, own_over, parts_over, state_over, states_over, step_over, steps_over, with_all_cells, with_cells}
use Rattle.job_rules.specs.Ports.{declared_at}
use Rattle.job_rules.specs.Tables.{cells_written}
use Rattle.job_rules.proofs.Sooner.{faultless, first_none, sooner_none, unbroken}

pub both : (a b : Bool) → a ≡ true → b ≡ true → (a && b) ≡ true
both a b d e = ap (λ c. c && b) d ∙ e

-- a count that isn't too great
within : (which : LimitKind) (most count at : ℕ) → over which most count at ≡ nothing → count ≤ most
within which most count at h = ltb-false most count (unbroken (nat_lt most count) (Limit which count at) h)

-- a count that stops nowhere
uncapped : (n m : ℕ) → capped n ≤ m → m < 18446744073709551615 → capped n ≡ n
uncapped n m h k = omega (arith, h, k)

-- ---- states

-- how many cells these states have
abbrev pub cells_of_all : List StateDecl → ℕ
cells_of_all [] = 0
cells_of_all (s ∷ more) = cells_written s.cells + cells_of_all more

pub record StatesCounted (elements n cells all : ℕ) (states : List StateDecl) : Type 0 where
  pub few : n + length states ≤ 16
  pub little : cells + cells_of_all states ≤ 4096
  pub total : all + elements * cells_of_all states ≤ 1048576
  pub after : with_all_cells elements all states ≡ all + elements * cells_of_all states

state_kept : (n cells all : ℕ) (found : Found) (at : ℕ) → state_over n cells all found at ≡ nothing → (found ≡ nothing) × (n ≤ 16) × (cells ≤ 4096) × (all ≤ 1048576)
unfolding state_over
state_kept n cells all found at h =
    let all_of = sooner_none (sooner (sooner found (over States 16 n at)) (over Cells 4096 cells at)) (over AllCells 1048576 all at) h in
    let cells_of = sooner_none (sooner found (over States 16 n at)) (over Cells 4096 cells at) all_of.0 in
    let states_of = sooner_none found (over States 16 n at) cells_of.0 in
    (states_of.0, within States 16 n at states_of.1, within Cells 4096 cells at cells_of.1, within AllCells 1048576 all at all_of.1)

one_state : (elements n cells all c r k w : ℕ) → capped (cells + c) ≤ 4096 → capped (all + capped (c * elements)) ≤ 1048576 →
    suc n + k ≤ 16 → capped (cells + c) + r ≤ 4096 → capped (all + capped (c * elements)) + elements * r ≤ 1048576 →
    w ≡ capped (all + capped (c * elements)) + elements * r →
    (n + suc k ≤ 16) × (cells + (c + r) ≤ 4096) × (all + elements * (c + r) ≤ 1048576) × (w ≡ all + elements * (c + r))
one_state elements n cells all c r k w own grown few little total after =
    let own_is : capped (cells + c) ≡ cells + c = uncapped (cells + c) 4096 own (omega arith) in
    let grown_is : capped (all + capped (c * elements)) ≡ all + capped (c * elements) = uncapped (all + capped (c * elements)) 1048576 grown (omega arith) in
    let small : capped (c * elements) ≤ 1048576 = omega (arith, grown, grown_is) in
    let some_is : capped (c * elements) ≡ c * elements = uncapped (c * elements) 1048576 small (omega arith) in
    let all_is : capped (all + capped (c * elements)) ≡ all + c * elements = grown_is ∙ ap (λ m. all + m) some_is in
    (omega (arith, few), omega (arith, little, own_is), omega (arith, total, all_is), omega (arith, after, all_is))

pub states_counted : (elements n cells all : ℕ) (found : Found) (states : List StateDecl) → states_over elements n cells all found states ≡ nothing →
    (found ≡ nothing) × (n ≤ 16 → cells ≤ 4096 → all ≤ 1048576 → StatesCounted elements n cells all states)
states_counted elements n cells all found [] h =
    (h, λ few little much. record { few = omega (arith, few); little = omega (arith, little); total = omega (arith, much); after = omega arith })
states_counted elements n cells all found (s ∷ more) h =
    let own = capped (cells + cells_written s.cells) in
    let grown = with_cells elements all s in
    let others = states_counted elements (suc n) own grown (state_over (suc n) own grown found s.at) more h in
    let here = state_kept (suc n) own grown found s.at others.0 in (
      here.0,
      λ few little much.
          let rest = others.1 here.1 here.2 here.3 in
          let all_four = one_state elements n cells all (cells_written s.cells) (cells_of_all more) (length more) (with_all_cells elements grown more) here.2 here.3 rest.few rest.little rest.total rest.after in
          record { few = all_four.0; little = all_four.1; total = all_four.2; after = all_four.3 },
    )

-- ---- members and steps

members_counted : (n : ℕ) (found : Found) (members : List MemberDecl) → members_over n found members ≡ nothing → (found ≡ nothing) × (n ≤ 16 → n + length members ≤ 16)
members_counted n found [] h = (h, λ few. omega (arith, few))
members_counted n found (m ∷ more) h =
    let others = members_counted (suc n) (sooner found (over Entries 16 (suc n) (declared_at m))) more h in
    let here = sooner_none found (over Entries 16 (suc n) (declared_at m)) others.0 in
    (here.0, λ few. let rest = others.1 (within Entries 16 (suc n) (declared_at m) here.1) in omega (arith, rest))

parts_counted : (n : ℕ) (found : Found) (parts : List PartDecl) → parts_over n found parts ≡ nothing → (found ≡ nothing) × (n ≤ 8 → n + length parts ≤ 8)
parts_counted n found [] h = (h, λ few. omega (arith, few))
parts_counted n found (p ∷ more) h =
    let others = parts_counted (suc n) (sooner found (over Parts 8 (suc n) p.at)) more h in
    let here = sooner_none found (over Parts 8 (suc n) p.at) others.0 in
    (here.0, λ few. let rest = others.1 (within Parts 8 (suc n) p.at here.1) in omega (arith, rest))

-- how many parts a step has
abbrev pub parts_in : StepBody → ℕ
parts_in (bodies.Overlap at parts) = length parts
parts_in (bodies.Part part) = 1
parts_in (bodies.Block block) = 1

abbrev pub few_parts : StepDecl → Bool
few_parts s = nat_le (parts_in s.body) 8

abbrev pub costs_little : StepDecl → Bool
costs_little s = nat_le (step_cost s) 1000000

body_counted : (found : Found) (b : StepBody) → body_over found b ≡ nothing → (found ≡ nothing) × (nat_le (parts_in b) 8 ≡ true)
body_counted found (bodies.Overlap at parts) h = let k = parts_counted 0 found parts h in (k.0, le-leb (length parts) 8 (let few : 0 + length parts ≤ 8 = k.1 (omega arith) in omega (arith, few)))
body_counted found (bodies.Part part) h = (h, refl)
body_counted found (bodies.Block block) h = (h, refl)

step_counted : (n : ℕ) (found : Found) (s : StepDecl) → step_over n found s ≡ nothing → (found ≡ nothing) × (n ≤ 32) × (costs_little s ≡ true) × (few_parts s ≡ true)
unfolding step_over
step_counted n found s h =
    let parts = body_counted (sooner (sooner found (over Steps 32 n s.at)) (over Cost 1000000 (step_cost s) s.at)) s.body h in
    let costs = sooner_none (sooner found (over Steps 32 n s.at)) (over Cost 1000000 (step_cost s) s.at) parts.0 in
    let steps = sooner_none found (over Steps 32 n s.at) costs.0 in
    (steps.0, within Steps 32 n s.at steps.1, le-leb (step_cost s) 1000000 (within Cost 1000000 (step_cost s) s.at costs.1), parts.1)

steps_counted : (n : ℕ) (found : Found) (steps : List StepDecl) → steps_over n found steps ≡ nothing →
    (found ≡ nothing) × (n ≤ 32 → n + length steps ≤ 32) × (list_all costs_little steps ≡ true) × (list_all few_parts steps ≡ true)
steps_counted n found [] h = (h, λ few. omega (arith, few), refl, refl)
steps_counted n found (s ∷ more) h =
    let others = steps_counted (suc n) (step_over (suc n) found s) more h in
    let here = step_counted (suc n) found s others.0 in
    (here.0, λ few. (let rest = others.1 here.1 in omega (arith, rest)), both _ _ here.2 others.2, both _ _ here.3 others.3)

-- ---- arrays

-- an array's own counts
pub record ArrayCounted (a : ArrayDecl) : Type 0 where
  pub states : length a.states ≤ 16
  pub cells : cells_of_all a.states ≤ 4096
  pub members : length a.members ≤ 16
  pub steps : length a.steps ≤ 32
  pub costs : list_all costs_little a.steps ≡ true
  pub parts : list_all few_parts a.steps ≡ true

-- these arrays' counts, behind n arrays that have this many elements and cells in all
abbrev pub ArraysCounted : ℕ → ℕ → ℕ → List ArrayDecl → Type 0
ArraysCounted n elements all [] = (n ≤ 8) × (elements ≤ 4096) × (all ≤ 1048576)
ArraysCounted n elements all (a ∷ more) =
    ArrayCounted a × ArraysCounted (suc n) (elements + elements_written a.sizes) (all + elements_written a.sizes * cells_of_all a.states) more

own_counted : (all : ℕ) (found : Found) (a : ArrayDecl) → own_over all found a ≡ nothing →
    (found ≡ nothing) × (all ≤ 1048576 → ArrayCounted a × (all + elements_written a.sizes * cells_of_all a.states ≤ 1048576)
    × (with_all_cells (elements_written a.sizes) all a.states ≡ all + elements_written a.sizes * cells_of_all a.states))
own_counted all found a h =
    let size = elements_written a.sizes in
    let steps = steps_counted 0 (members_over 0 (states_over size 0 0 all found a.states) a.members) a.steps h in
    let members = members_counted 0 (states_over size 0 0 all found a.states) a.members steps.0 in
    let states = states_counted size 0 0 all found a.states members.0 in (
      states.0,
      λ much.
          let s = states.1 (omega arith) (omega arith) much in
          let few_members = members.1 (omega arith) in
          let few_steps = steps.1 (omega arith) in (
            record {
              states = omega (arith, s.few);
              cells = omega (arith, s.little);
              members = omega (arith, few_members);
              steps = omega (arith, few_steps);
              costs = steps.2;
              parts = steps.3;
            },
            s.total,
            s.after,
          ),
    )

array_counted : (n elements all : ℕ) (found : Found) (a : ArrayDecl) → array_over n elements all found a ≡ nothing →
    (found ≡ nothing) × (n ≤ 8) × (elements ≤ 4096) × (all ≤ 1048576 → ArrayCounted a × (all + elements_written a.sizes * cells_of_all a.states ≤ 1048576)
    × (with_all_cells (elements_written a.sizes) all a.states ≡ all + elements_written a.sizes * cells_of_all a.states))
unfolding array_over
array_counted n elements all found a h =
    let own = own_counted all (sooner (sooner found (over Arrays 8 n a.at)) (over Elements 4096 elements a.at)) a h in
    let size = sooner_none (sooner found (over Arrays 8 n a.at)) (over Elements 4096 elements a.at) own.0 in
    let count = sooner_none found (over Arrays 8 n a.at) size.0 in
    (count.0, within Arrays 8 n a.at count.1, within Elements 4096 elements a.at size.1, own.1)

pub arrays_counted : (n elements all : ℕ) (found : Found) (arrays : List ArrayDecl) → arrays_over n elements all found arrays ≡ nothing →
    (found ≡ nothing) × (n ≤ 8 → elements ≤ 4096 → all ≤ 1048576 → ArraysCounted n elements all arrays)
arrays_counted n elements all found [] h = (h, λ few little much. (few, little, much))
arrays_counted n elements all found (a ∷ more) h =
    let size = elements_written a.sizes in
    let grown = capped (elements + size) in
    let others = arrays_counted (suc n) grown (with_all_cells size all a.states) (array_over (suc n) grown all found a) more h in
    let here = array_counted (suc n) grown all found a others.0 in (
      here.0,
      λ few little much.
          let own = here.3 much in
          let grown_is : grown ≡ elements + size = uncapped (elements + size) 4096 here.2 (omega arith) in
          let fits : with_all_cells size all a.states ≤ 1048576 = omega (arith, own.1, own.2) in
          let rest = others.1 here.1 here.2 fits in
          (own.0, by (with_all_cells size all a.states) grown grown_is own.2 rest),
    )
  where
    by : (w g : ℕ) → g ≡ elements + elements_written a.sizes → w ≡ all + elements_written a.sizes * cells_of_all a.states → ArraysCounted (suc n) g w more →
        ArraysCounted (suc n) (elements + elements_written a.sizes) (all + elements_written a.sizes * cells_of_all a.states) more
    by w g e f h = rw (e, f) at h

-- ---- answers

answer_kept : (n : ℕ) (found : Found) (a : AnswerDecl) → answer_over n found a ≡ nothing → (found ≡ nothing) × (n ≤ 16)
unfolding answer_over
answer_kept n found a h = let here = sooner_none found (over Answers 16 n (answered_at a)) h in (here.0, within Answers 16 n (answered_at a) here.1)

answers_counted : (n : ℕ) (found : Found) (answers : List AnswerDecl) → answers_over n found answers ≡ nothing → (found ≡ nothing) × (n ≤ 16 → n + length answers ≤ 16)
answers_counted n found [] h = (h, λ few. omega (arith, few))
answers_counted n found (a ∷ more) h =
    let others = answers_counted (suc n) (answer_over (suc n) found a) more h in
    let here = answer_kept (suc n) found a others.0 in
    (here.0, λ few. let rest = others.1 here.1 in omega (arith, rest))

-- where no count is too great, none was found before, and all counts are within their limits
pub counted : (job : Job) (found : Found) → limits_found job found ≡ nothing → (found ≡ nothing) × ArraysCounted 0 0 0 job.arrays × (length job.answers ≤ 16)
unfolding limits_found
counted job found h =
    let answers = answers_counted 0 (arrays_over 0 0 0 found job.arrays) job.answers h in
    let arrays = arrays_counted 0 0 0 found job.arrays answers.0 in
    let few = answers.1 (omega arith) in
    (arrays.0, arrays.1 (omega arith) (omega arith) (omega arith), omega (arith, few))

-- ---- written numbers

not_false : (b : Bool) → not b ≡ false → b ≡ true
not_false true h = refl
not_false false h = absurd cc

pub inside : (low high : ℕ) (n : Num) → outside low high n ≡ nothing → (low ≤ n.value) × (n.value ≤ high)
inside low high n h =
    let tests = and_parts (nat_le low n.value) (nat_le n.value high) (not_false (nat_le low n.value && nat_le n.value high) (unbroken (not (nat_le low n.value && nat_le n.value high)) (Bound n.at) h)) in
    (leb-true low n.value tests.0, leb-true n.value high tests.1)

-- the numbers of an array are within their ranges
pub record ArrayBounded (a : ArrayDecl) : Type 0 where
  pub first : size_fault (Some a.sizes.first) ≡ nothing
  pub second : size_fault a.sizes.second ≡ nothing
  pub states : faultless state_bound a.states ≡ true
  pub members : faultless member_bound a.members ≡ true

abbrev pub ArraysBounded : List ArrayDecl → Type 0
ArraysBounded [] = Unit {0}
ArraysBounded (a ∷ more) = ArrayBounded a × ArraysBounded more

array_bounded : (found : Found) (a : ArrayDecl) → array_bounds found a ≡ nothing → (found ≡ nothing) × ArrayBounded a
array_bounded found a h =
    let sizes = sooner (sooner found (size_fault (Some a.sizes.first))) (size_fault a.sizes.second) in
    let members = first_none member_bound (first_of state_bound sizes a.states) a.members h in
    let states = first_none state_bound sizes a.states members.0 in
    let second = sooner_none (sooner found (size_fault (Some a.sizes.first))) (size_fault a.sizes.second) states.0 in
    let first = sooner_none found (size_fault (Some a.sizes.first)) second.0 in
    (first.0, record { first = first.1; second = second.1; states = states.1; members = members.1 })

arrays_bounded : (found : Found) (arrays : List ArrayDecl) → arrays_bounds found arrays ≡ nothing → (found ≡ nothing) × ArraysBounded arrays
arrays_bounded found [] h = (h, tt)
arrays_bounded found (a ∷ more) h =
    let others = arrays_bounded (array_bounds found a) more h in
    let here = array_bounded found a others.0 in
    (here.0, (here.1, others.1))

pub bounded : (job : Job) (found : Found) → bounds_found job found ≡ nothing →
    (found ≡ nothing) × ((1 ≤ job.iterations.value) × (job.iterations.value ≤ 1000000)) × ArraysBounded job.arrays
unfolding bounds_found
bounded job found h =
    let arrays = arrays_bounded (sooner found (outside 1 1000000 job.iterations)) job.arrays h in
    let here = sooner_none found (outside 1 1000000 job.iterations) arrays.0 in
    (here.0, inside 1 1000000 job.iterations here.1, arrays.1)
