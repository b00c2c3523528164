-- The flips of an iteration strike each element's own cells.
use Rattle.std.proofs.Common.{◌≡◌, ℕ, zero, suc, ◌<◌, Bool, true, false, cond, List, [], ◌∷◌, length, set, refl, ap, sym, ◌∙◌, arith, inl, inr, get_or-set_same, get_or-set_other}
use Rattle.std.specs.Prelude.{◌==◌, ◌&&◌}
use Rattle.std.proofs.lemmas.List.{length-set}
use Rattle.std.proofs.lemmas.Bool.Decides.{eqb_tells}
use Rattle.chare_base.specs.declared.cells.Cells.{Cells}
use Rattle.chare_base.specs.declared.plan.Plan.{Plan}
use Rattle.chare_base.specs.Elements.{parts_at}
use Rattle.chare_base.specs.Flip.{Flip}
use Rattle.chare_eval.specs.Fold.{fold}
use Rattle.chare_eval.specs.Stage.{state_at, with_flip, struck, stage}
use Rattle.chare_eval.specs.Inside.{cells_before, cells_inside, is_done, messages_to, none_done, struck_at}
use Rattle.chare_eval.specs.Laws.{StrikesAreLocal}
use Rattle.chare_eval.proofs.Order.{none_run}
use Rattle.chare_eval.proofs.Shapes.{fold_shape, none}

abbrev hit : Flip → List Cells → List Cells
hit f all = set all f.element (with_flip f (state_at all f.element))

hit_at : (f : Flip) (all : List Cells) (e : ℕ) → e < length all → state_at (hit f all) e ≡ cond (f.element == e) (with_flip f (state_at all e)) (state_at all e)
hit_at f all e h = elim (eqb_tells f.element e) [
  | inl q ↦
      let there : f.element < length all = omega (arith, q.1) in
      ap (λ i. state_at (hit f all) i) (sym q.1) ∙ get_or-set_same all f.element (with_flip f (state_at all f.element)) none there
      ∙ ap (λ i. with_flip f (state_at all i)) q.1 ∙ ap (λ b. cond b (with_flip f (state_at all e)) (state_at all e)) (sym q.0)
  | inr q ↦
      get_or-set_other all f.element e (with_flip f (state_at all f.element)) none (λ x. q.1 (sym x))
      ∙ ap (λ b. cond b (with_flip f (state_at all e)) (state_at all e)) (sym q.0)
]

one_struck : (now : Bool) (f : Flip) (all : List Cells) (e : ℕ) → e < length all →
    state_at (cond now (hit f all) all) e ≡ cond (now && f.element == e) (with_flip f (state_at all e)) (state_at all e)
one_struck true f all e h = hit_at f all e h
one_struck false f all e h = refl

one_length : (now : Bool) (f : Flip) (all : List Cells) → length (cond now (hit f all) all) ≡ length all
one_length true f all = length-set all f.element (with_flip f (state_at all f.element))
one_length false f all = refl

pub struck_length : (lines : List Flip) (k : ℕ) (all : List Cells) → length (struck lines k all) ≡ length all
struck_length [] k all = refl
struck_length (f ∷ more) k all = struck_length more k (cond (f.at == k) (hit f all) all) ∙ one_length (f.at == k) f all

pub struck_local : (lines : List Flip) (k : ℕ) (all : List Cells) (e : ℕ) → e < length all → state_at (struck lines k all) e ≡ struck_at lines k e (state_at all e)
struck_local [] k all e h = refl
struck_local (f ∷ more) k all e h =
    struck_local more k (cond (f.at == k) (hit f all) all) e (omega (arith, one_length (f.at == k) f all)) ∙ ap (struck_at more k e) (one_struck (f.at == k) f all e h)

pub none_is_done : (i : ℕ) → is_done none_done i ≡ false
none_is_done zero = refl
none_is_done (suc zero) = refl
none_is_done (suc (suc zero)) = refl
none_is_done (suc (suc (suc zero))) = refl
none_is_done (suc (suc (suc (suc zero)))) = refl
none_is_done (suc (suc (suc (suc (suc zero))))) = refl
none_is_done (suc (suc (suc (suc (suc (suc zero)))))) = refl
none_is_done (suc (suc (suc (suc (suc (suc (suc zero))))))) = refl
none_is_done (suc (suc (suc (suc (suc (suc (suc (suc i)))))))) = refl

-- where no part is done yet
pub before_parts : (p : Plan) (lines : List Flip) (k s e : ℕ) → cells_inside p lines k s none_done e ≡ cells_before p lines k s e
unfolding cells_inside
before_parts p lines k s e = none_run p e s k (messages_to p lines k e) (parts_at p e s) (is_done none_done) (cells_before p lines k s e) none_is_done

pub begins : (p : Plan) (lines : List Flip) (k e : ℕ) → cells_before p lines k 0 e ≡ state_at (struck lines k (fold p lines k)) e
unfolding stage
begins p lines k e = refl

pub strikes_are_local : StrikesAreLocal
strikes_are_local p lines k e h =
    before_parts p lines k 0 e ∙ begins p lines k e ∙ struck_local lines k (fold p lines k) e (omega (arith, h, (fold_shape p lines k).count))
