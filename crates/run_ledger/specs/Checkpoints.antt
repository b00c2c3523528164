-- What the checkpoints of folds tell.
use Rattle.std.specs.Prelude.{◌≡◌, ℕ, ◌≤◌, List}
use Rattle.chare_base.specs.declared.plan.Plan.{Plan}
use Rattle.chare_base.specs.Flip.{Flip}
use Rattle.chare_eval.specs.Fold.{fold}
use Rattle.pup_state.specs.Packs.{LawfulState}
use Rattle.pup_state.specs.Spelling.{pack}

-- the states of every fold are such as a job can have
abbrev pub FoldsAreLawful : Type 0
FoldsAreLawful = (p : Plan) (lines : List Flip) (k : ℕ) → k ≤ p.iterations → LawfulState p k (fold p lines k)

-- equal checkpoints of folds are of equal folds
abbrev pub EqualCheckpointsAreOfEqualFolds : Type 0
EqualCheckpointsAreOfEqualFolds = (p : Plan) (a b : List Flip) (k : ℕ) → k ≤ p.iterations → pack p k (fold p a k) ≡ pack p k (fold p b k) → fold p a k ≡ fold p b k
