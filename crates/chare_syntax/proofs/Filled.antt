-- The lists of a job have their items, as tests say it.
use Rattle.std.proofs.Common.{◌≡◌, ◌<◌, ℕ, List, [], ◌∷◌, length, refl, true, nat_lt, suc}
use Rattle.std.specs.Prelude.{IsTrue}
use Rattle.std.specs.Cmp.Derive.{both_true}
use Rattle.std.specs.List.{AllByRecursion, list_all}
use Rattle.std.proofs.lemmas.Bool.{le-leb}
use Rattle.job_tree.specs.declared.tree.ArrayDecl.{ArrayDecl}
use Rattle.job_tree.specs.declared.tree.Job.{Job}
use Rattle.job_tree.specs.declared.tree.StepBody.{StepBody}
use Rattle.job_tree.specs.declared.tree.StepBody.TheVariants as bodies
use Rattle.job_tree.specs.declared.tree.StepDecl.{StepDecl}
use Rattle.job_tree.specs.Accepted.{ArrayFilled, BodyFilled, JobFilled, StepFilled, array_is_filled, body_is_filled, is_filled, step_is_filled}

more_than : (k n : ℕ) → k < n → nat_lt k n ≡ true
more_than k n h = le-leb (suc k) n h

body_filled : (b : StepBody) → BodyFilled b → body_is_filled b ≡ true
body_filled (bodies.Overlap at parts) h = more_than 1 (length parts) h
body_filled (bodies.Block b) h = refl
body_filled (bodies.Part q) h = refl

steps_filled : (steps : List StepDecl) → AllByRecursion StepFilled steps → list_all step_is_filled steps ≡ true
steps_filled [] h = refl
steps_filled (s ∷ more) h = both_true (body_filled s.body h.0) (steps_filled more h.1)

arrays_filled : (arrays : List ArrayDecl) → AllByRecursion ArrayFilled arrays → list_all array_is_filled arrays ≡ true
arrays_filled [] h = refl
arrays_filled (a ∷ more) h =
    both_true (both_true (both_true (more_than 0 (length a.states) h.0.some_states) (more_than 0 (length a.steps) h.0.some_steps)) (steps_filled a.steps h.0.filled_steps)) (arrays_filled more h.1)

pub job_filled : (j : Job) → JobFilled j → IsTrue (is_filled j)
unfolding is_filled
job_filled j h = both_true (both_true (more_than 0 (length j.arrays) h.some_arrays) (arrays_filled j.arrays h.filled_arrays)) (more_than 0 (length j.answers) h.some_answers)
