-- Counts of a job, each at most so great. A count is refused at each place where it exceeds, with the count up to and with
-- that place. Counts stop at the greatest number of 64 bits.
use Rattle.std.specs.Prelude.{ℕ, suc, ◌+◌, ◌*◌, nat_lt, List, [], ◌∷◌, Option, Some, None}
use Rattle.chare_base.specs.Costs.{capped}
use Rattle.job_tree.specs.declared.token.Num.{Num}
use Rattle.job_tree.specs.declared.tree.AnswerDecl.{AnswerDecl}
use Rattle.job_tree.specs.declared.tree.AnswerDecl.TheVariants as answers
use Rattle.job_tree.specs.declared.tree.ArrayDecl.{ArrayDecl}
use Rattle.job_tree.specs.declared.tree.Coordinates.{Coordinates}
use Rattle.job_tree.specs.declared.tree.Job.{Job}
use Rattle.job_tree.specs.declared.tree.MemberDecl.{MemberDecl}
use Rattle.job_tree.specs.declared.tree.PartDecl.{PartDecl}
use Rattle.job_tree.specs.declared.tree.StateDecl.{StateDecl}
use Rattle.job_tree.specs.declared.tree.StepBody.{StepBody}
use Rattle.job_tree.specs.declared.tree.StepBody.TheVariants as bodies
use Rattle.job_tree.specs.declared.tree.StepDecl.{StepDecl}
use Rattle.job_rules.specs.declared.fault.CheckFault.TheVariants.{Limit}
use Rattle.job_rules.specs.declared.fault.LimitKind.{LimitKind}
use Rattle.job_rules.specs.declared.fault.LimitKind.TheVariants.{Arrays, States, Entries, Steps, Parts, Answers, Elements, Cells, AllCells, Cost}
use Rattle.job_rules.specs.Costs.{step_cost}
use Rattle.job_rules.specs.Faults.{Found, fault_if, sooner}
use Rattle.job_rules.specs.Ports.{declared_at}
use Rattle.job_rules.specs.Tables.{cells_written}

-- a count above the greatest that there may be
abbrev pub over : LimitKind → ℕ → ℕ → ℕ → Found
over which most count at = fault_if (nat_lt most count) (Limit which count at)

-- ---- an array's states, behind n states of an element with this many cells, where the job's elements have all cells

-- the cells of all elements with those of a state, in an array of this many elements
abbrev pub with_cells : ℕ → ℕ → StateDecl → ℕ
with_cells elements all s = capped (all + capped (cells_written s.cells * elements))

-- the counts at a state: n states, the cells of an element, the cells of all
unfoldable pub state_over : ℕ → ℕ → ℕ → Found → ℕ → Found
state_over n cells all found at = sooner (sooner (sooner found (over States 16 n at)) (over Cells 4096 cells at)) (over AllCells 1048576 all at)

abbrev pub states_over : ℕ → ℕ → ℕ → ℕ → Found → List StateDecl → Found
states_over elements n cells all found [] = found
states_over elements n cells all found (s ∷ more) =
    let own = capped (cells + cells_written s.cells) in
    let grown = with_cells elements all s in
    states_over elements (suc n) own grown (state_over (suc n) own grown found s.at) more

abbrev pub with_all_cells : ℕ → ℕ → List StateDecl → ℕ
with_all_cells elements all [] = all
with_all_cells elements all (s ∷ more) = with_all_cells elements (with_cells elements all s) more

-- ---- an array's entries and reductions, before which there are n

abbrev pub members_over : ℕ → Found → List MemberDecl → Found
members_over n found [] = found
members_over n found (m ∷ more) = members_over (suc n) (sooner found (over Entries 16 (suc n) (declared_at m))) more

-- ---- an array's steps, before which there are n

abbrev pub parts_over : ℕ → Found → List PartDecl → Found
parts_over n found [] = found
parts_over n found (part ∷ more) = parts_over (suc n) (sooner found (over Parts 8 (suc n) part.at)) more

-- A step that isn't an overlap has one part.
abbrev pub body_over : Found → StepBody → Found
body_over found (bodies.Overlap at parts) = parts_over 0 found parts
body_over found _ = found

unfoldable pub step_over : ℕ → Found → StepDecl → Found
step_over n found step = body_over (sooner (sooner found (over Steps 32 n step.at)) (over Cost 1000000 (step_cost step) step.at)) step.body

abbrev pub steps_over : ℕ → Found → List StepDecl → Found
steps_over n found [] = found
steps_over n found (step ∷ more) = steps_over (suc n) (step_over (suc n) found step) more

-- ---- arrays, behind n with this many elements and cells in all

-- rows times columns, as written
abbrev pub size_written : Num → Option Num → ℕ
size_written size None = size.value
size_written rows (Some columns) = capped (rows.value * columns.value)

abbrev pub elements_written : Coordinates → ℕ
elements_written sizes = size_written sizes.first sizes.second

-- an array's own counts
abbrev pub own_over : ℕ → Found → ArrayDecl → Found
own_over all found a = steps_over 0 (members_over 0 (states_over (elements_written a.sizes) 0 0 all found a.states) a.members) a.steps

-- the counts at an array: n arrays, their elements
unfoldable pub array_over : ℕ → ℕ → ℕ → Found → ArrayDecl → Found
array_over n elements all found a = own_over all (sooner (sooner found (over Arrays 8 n a.at)) (over Elements 4096 elements a.at)) a

abbrev pub arrays_over : ℕ → ℕ → ℕ → Found → List ArrayDecl → Found
arrays_over n elements all found [] = found
arrays_over n elements all found (a ∷ more) =
    let grown = capped (elements + elements_written a.sizes) in
    arrays_over (suc n) grown (with_all_cells (elements_written a.sizes) all a.states) (array_over (suc n) grown all found a) more

-- ---- answers, before which there are n

abbrev pub answered_at : AnswerDecl → ℕ
answered_at (answers.Over at how array state) = at
answered_at (answers.At at array element state cell) = at

unfoldable pub answer_over : ℕ → Found → AnswerDecl → Found
answer_over n found a = sooner found (over Answers 16 n (answered_at a))

abbrev pub answers_over : ℕ → Found → List AnswerDecl → Found
answers_over n found [] = found
answers_over n found (a ∷ more) = answers_over (suc n) (answer_over (suc n) found a) more

-- of what was found and the counts of a job, but for the length of names
unfoldable pub limits_found : Job → Found → Found
limits_found job found = answers_over 0 (arrays_over 0 0 0 found job.arrays) job.answers
