-- All iterations of one copy of a job, one after another.
use Rattle.std.specs.Prelude.{ℕ, zero, suc, ◌+◌, List, []}
use Rattle.chare_base.specs.declared.cells.Cells.{Cells}
use Rattle.chare_base.specs.declared.plan.Plan.{Plan}
use Rattle.chare_base.specs.Flip.{Flip}
use Rattle.chare_eval.specs.Opening.{opening}
use Rattle.chare_eval.specs.Stage.{round}

-- from the states before iteration k, n iterations later
unfoldable pub fold_from : Plan → List Flip → ℕ → List Cells → ℕ → List Cells
fold_from p lines k all zero = all
fold_from p lines k all (suc n) = round p lines (k + n) (fold_from p lines k all n)

-- the states after n iterations, where these flips strike
unfoldable pub fold : Plan → List Flip → ℕ → List Cells
fold p lines n = fold_from p lines 0 (opening p) n

-- the same with no flips
abbrev pub plain : Plan → ℕ → List Cells
plain p n = fold p [] n
