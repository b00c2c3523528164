-- The states of folds, and what their checkpoints tell.
use Rattle.std.proofs.Common.{◌≡◌, ℕ, zero, suc, ◌^◌, ◌<◌, ◌⊎◌, List, [], ◌∷◌, length, get_or, arith, inl, inr, subst}
use Rattle.std.specs.List.{AllByRecursion}
use Rattle.std.proofs.lemmas.List.{get_or_default}
use Rattle.chare_base.specs.declared.cells.Cells.{Cells}
use Rattle.chare_base.specs.declared.cells.Slip.{Slip}
use Rattle.chare_base.specs.Elements.{steps_of}
use Rattle.chare_base.proofs.Facts.{iterations_few}
use Rattle.chare_eval.specs.Fold.{fold}
use Rattle.chare_eval.specs.Inside.{cells_between}
use Rattle.chare_eval.specs.Laws.{FoldIsShaped, FoldsFit, Noted, NumbersFit, SlipsAreNoted}
use Rattle.chare_eval.specs.Opening.{no_slip}
use Rattle.pup_state.specs.Laws.{LawfulFits, OneSpelling}
use Rattle.pup_state.specs.Packs.{LawfulSlip}
use Rattle.run_ledger.specs.Checkpoints.{EqualCheckpointsAreOfEqualFolds, FoldsAreLawful}

fits_at : (all : List Cells) (e : ℕ) (none : Cells) → e < length all → AllByRecursion NumbersFit all → NumbersFit (get_or all e none)
fits_at [] e none h fit = absurd (omega (arith, h))
fits_at (c ∷ more) zero none h fit = fit.0
fits_at (c ∷ more) (suc i) none h fit = fits_at more i none (omega (arith, h)) fit.1

-- a slip of a fold is one that a checkpoint spells
lawful_slip : (steps k : ℕ) (slip : Slip) → (slip ≡ no_slip) ⊎ Noted steps k slip → LawfulSlip steps k slip
lawful_slip steps k slip (inl none) = inl none
lawful_slip steps k slip (inr n) = inr (record { some = n.some; kinds = n.kinds; step = n.step; iteration = n.iteration })

pub folds_are_lawful : FoldIsShaped → FoldsFit → SlipsAreNoted → FoldsAreLawful
folds_are_lawful shaped fit noted p lines k h =
    let shape = shaped p lines k in
    record {
      count = shape.count;
      each = λ e none there. record {
        time = h;
        count = shape.cells e none there;
        numbers = fits_at (fold p lines k) e none there (fit p lines k);
        slip =
            let P : Cells → Type 0 = λ c. LawfulSlip (length (steps_of p e)) k c.slip in
            subst P (get_or_default (fold p lines k) e (record { numbers = []; slip = no_slip }) none there)
            (lawful_slip (length (steps_of p e)) k (cells_between p lines k e).slip (noted p lines k e (omega (arith, there, shape.count))));
      };
    }

pub equal_folds : FoldsAreLawful → LawfulFits → OneSpelling → EqualCheckpointsAreOfEqualFolds
equal_folds lawful fits spelling p a b k h same =
    let small : k < 2 ^ 64 = omega (arith, h, iterations_few p) in
    (spelling p k k (fold p a k) (fold p b k) small small (fits p k (fold p a k) (lawful p a k h)) (fits p k (fold p b k) (lawful p b k h)) same).0
