-- Flips of later iterations don't matter.
use Rattle.std.proofs.Common.{◌≡◌, ℕ, zero, suc, ◌+◌, ◌<◌, ◌≤◌, Bool, true, false, cond, List, [], ◌∷◌, set, refl, ap, ◌∙◌, arith}
use Rattle.std.specs.Prelude.{◌==◌, nat_lt}
use Rattle.std.proofs.lemmas.Bool.Decides.{nat_tests}
use Rattle.chare_base.specs.declared.cells.Cells.{Cells}
use Rattle.chare_base.specs.declared.plan.Plan.{Plan}
use Rattle.chare_base.specs.Elements.{elements, steps_in_round}
use Rattle.chare_base.specs.Flip.{Flip}
use Rattle.chare_eval.specs.Fold.{fold, fold_from}
use Rattle.chare_eval.specs.Opening.{opening}
use Rattle.chare_eval.specs.Stage.{Board, ran, round, stage, state_at, struck, with_flip}
use Rattle.chare_eval.specs.Laws.{EarlierFlipsDecide, flips_before}

other : (at k before : ℕ) → k < before → nat_lt at before ≡ false → (at == k) ≡ false
other at k before h l = grind (arith, nat_tests)

module _ (before : ℕ) where
  abbrev few : List Flip → List Flip
  few lines = flips_before before lines

  abbrev hit : Flip → ℕ → List Cells → List Cells
  hit f k all = cond (f.at == k) (set all f.element (with_flip f (state_at all f.element))) all

  struck_next : (f : Flip) (more : List Flip) (k : ℕ) (all : List Cells) (b : Bool) → k < before → nat_lt f.at before ≡ b →
      ((states : List Cells) → struck more k states ≡ struck (few more) k states) → struck more k (hit f k all) ≡ struck (cond b (f ∷ few more) (few more)) k all
  struck_next f more k all true h earlier rest = rest (hit f k all)
  struck_next f more k all false h earlier rest =
      ap (λ b. struck more k (cond b (set all f.element (with_flip f (state_at all f.element))) all)) (other f.at k before h earlier) ∙ rest all

  struck_same : (lines : List Flip) (k : ℕ) (all : List Cells) → k < before → struck lines k all ≡ struck (flips_before before lines) k all
  struck_same [] k all h = refl
  struck_same (f ∷ more) k all h = struck_next f more k all (nat_lt f.at before) h refl (λ states. struck_same more k states h)

  stage_same : (p : Plan) (lines : List Flip) (k : ℕ) (all : List Cells) (s : ℕ) → k < before → stage p lines k all s ≡ stage p (flips_before before lines) k all s
  unfolding stage
  stage_same p lines k all zero h = let at_first : List Cells → Board = λ states. record { states = states; mail = [] } in ap at_first (struck_same lines k all h)
  stage_same p lines k all (suc s) h = ap (ran p s k (elements p)) (stage_same p lines k all s h)

  fold_same : (p : Plan) (lines : List Flip) (all : List Cells) (n : ℕ) → n ≤ before → fold_from p lines 0 all n ≡ fold_from p (flips_before before lines) 0 all n
  unfolding fold_from round
  fold_same p lines all zero h = refl
  fold_same p lines all (suc n) h =
      ap (λ (b : Board). b.states) (stage_same p lines (0 + n) (fold_from p lines 0 all n) (steps_in_round p) (omega arith))
      ∙ ap (λ x. (stage p (flips_before before lines) (0 + n) x (steps_in_round p)).states) (fold_same p lines all n (omega arith))

pub earlier_flips_decide : EarlierFlipsDecide
unfolding fold
earlier_flips_decide p lines k = fold_same k p lines (opening p) k (omega arith)
