-- The states of a fold have the shape of the plan's elements.
use Rattle.std.proofs.Common.{◌≡◌, ℕ, zero, suc, ◌+◌, ◌<◌, Bool, true, false, cond, List, [], ◌∷◌, length, get_or, set, refl, ap, sym, ◌∙◌, arith, inl, inr, get_or-set_same, get_or-set_other, length-append}
use Rattle.std.specs.Prelude.{◌==◌}
use Rattle.std.proofs.lemmas.List.{length-set}
use Rattle.std.proofs.lemmas.Bool.Decides.{eqb_tells}
use Rattle.chare_base.specs.declared.cells.Cells.{Cells}
use Rattle.chare_base.specs.declared.expression.Expr.{Expr}
use Rattle.chare_base.specs.declared.plan.Part.{Part}
use Rattle.chare_base.specs.declared.plan.Plan.{Plan}
use Rattle.chare_base.specs.declared.plan.State.{State}
use Rattle.chare_base.specs.Elements.{elements, cells_of, states_of, parts_at, steps_in_round}
use Rattle.chare_base.specs.Entries.{nothing}
use Rattle.chare_base.specs.Flip.{Flip}
use Rattle.chare_base.specs.Shape.{Shaped}
use Rattle.chare_base.specs.Sizes.{cells_in}
use Rattle.chare_eval.specs.declared.value.Scene.{Scene}
use Rattle.chare_eval.specs.Value.{number_at}
use Rattle.chare_eval.specs.Block.{Effect, quiet, scene_of}
use Rattle.chare_eval.specs.Opening.{cell_starts, no_slip, opening, start_of, starts, starts_from}
use Rattle.chare_eval.specs.Stage.{Board, Inbox, effect, flipped, given, inbox, part_runs, parts_run, ran, round, stage, state_at, struck, with_flip}
use Rattle.chare_eval.specs.Fold.{fold, fold_from}
use Rattle.chare_eval.specs.Laws.{FoldIsShaped}
use Rattle.chare_eval.proofs.Frames.{block_framed}

parts_length : (p : Plan) (e s k : ℕ) (box : Inbox) (parts : List Part) (f : Effect) → length (parts_run p e s k box parts f).cells.numbers ≡ length f.cells.numbers
parts_length p e s k box [] f = refl
parts_length p e s k box (part ∷ more) f =
    parts_length p e s k box more (part_runs p e s k box part f) ∙ (block_framed p e part.block (scene_of p e k (given part.need box))).len f.cells.numbers

-- a state in the place of another of its length
shape_set : (p : Plan) (all : List Cells) (i : ℕ) (cells : Cells) → Shaped p all → (i < length all → length cells.numbers ≡ cells_of p i) → Shaped p (set all i cells)
shape_set p all i cells is h = record {
  count = length-set all i cells ∙ is.count;
  cells = λ e none k.
      let below : e < length all = omega (arith, length-set all i cells) in
      elim (eqb_tells e i) [
        | inl q ↦
            let here : i < length all = omega (arith, q.1) in
            ap (λ j. length (get_or (set all i cells) j none).numbers) q.1 ∙ ap (λ (c : Cells). length c.numbers) (get_or-set_same all i cells none here) ∙ h here ∙ ap (cells_of p) (sym q.1)
        | inr q ↦ ap (λ (c : Cells). length c.numbers) (get_or-set_other all i e cells none q.1) ∙ is.cells e none below
      ];
}

-- the state of an element that isn't there
abbrev pub none : Cells
none = record { numbers = []; slip = no_slip }

ran_shape : (p : Plan) (s k e : ℕ) (b : Board) → Shaped p b.states → Shaped p (ran p s k e b).states
unfolding ran
ran_shape p s k zero b is = is
ran_shape p s k (suc e) b is =
    let before = ran_shape p s k e b is in
    let now = ran p s k e b in
    shape_set p now.states e (effect p s k e now).cells before
    (λ h. parts_length p e s k (inbox p now.mail e) (parts_at p e s) (quiet (state_at now.states e)) ∙ before.cells e none h)

struck_shape : (p : Plan) (lines : List Flip) (k : ℕ) (all : List Cells) → Shaped p all → Shaped p (struck lines k all)
struck_shape p [] k all is = is
struck_shape p (f ∷ more) k all is = struck_shape p more k (cond (f.at == k) (set all f.element (with_flip f (state_at all f.element))) all) (by_test (f.at == k))
  where
    struck_one : Shaped p (set all f.element (with_flip f (state_at all f.element)))
    struck_one =
        shape_set p all f.element (with_flip f (state_at all f.element)) is
        (λ h. length-set (state_at all f.element).numbers f.cell (flipped f.mask (number_at (state_at all f.element).numbers f.cell)) ∙ is.cells f.element none h)

    by_test : (b : Bool) → Shaped p (cond b (set all f.element (with_flip f (state_at all f.element))) all)
    by_test true = struck_one
    by_test false = is

stage_shape : (p : Plan) (lines : List Flip) (k : ℕ) (all : List Cells) (s : ℕ) → Shaped p all → Shaped p (stage p lines k all s).states
unfolding stage
stage_shape p lines k all zero is = struck_shape p lines k all is
stage_shape p lines k all (suc s) is = ran_shape p s k (elements p) (stage p lines k all s) (stage_shape p lines k all s is)

pub fold_from_shape : (p : Plan) (lines : List Flip) (k : ℕ) (all : List Cells) (n : ℕ) → Shaped p all → Shaped p (fold_from p lines k all n)
unfolding fold_from round
fold_from_shape p lines k all zero is = is
fold_from_shape p lines k all (suc n) is = stage_shape p lines (k + n) (fold_from p lines k all n) (steps_in_round p) (fold_from_shape p lines k all n is)

cell_starts_length : (scene : Scene) (start : Expr) (which n : ℕ) → length (cell_starts scene start which n) ≡ n
cell_starts_length scene start which zero = refl
cell_starts_length scene start which (suc n) = ap suc (cell_starts_length scene start (suc which) n)

states_length : (scene : Scene) (states : List State) → length (starts scene states) ≡ cells_in states
states_length scene [] = refl
states_length scene (s ∷ more) =
    length-append (cell_starts scene s.start 0 s.cells) (starts scene more) ∙ ap (λ n. n + length (starts scene more)) (cell_starts_length scene s.start 0 s.cells)
    ∙ ap (λ n. s.cells + n) (states_length scene more)

starts_length : (p : Plan) (n e : ℕ) → length (starts_from p n e) ≡ n
starts_length p zero e = refl
starts_length p (suc n) e = ap suc (starts_length p n (suc e))

start_length : (p : Plan) (e : ℕ) → length (start_of p e).numbers ≡ cells_of p e
unfolding start_of
start_length p e = states_length (scene_of p e 0 nothing) (states_of p e)

starts_shape : (p : Plan) (n e i : ℕ) (none : Cells) → i < n → length (get_or (starts_from p n e) i none).numbers ≡ cells_of p (e + i)
starts_shape p zero e i none h = absurd (omega arith)
starts_shape p (suc n) e zero none h = start_length p e ∙ ap (cells_of p) (let q : e ≡ e + zero = omega arith in q)
starts_shape p (suc n) e (suc i) none h = starts_shape p n (suc e) i none (omega arith) ∙ ap (cells_of p) (let q : suc e + i ≡ e + suc i = omega arith in q)

pub opening_shape : (p : Plan) → Shaped p (opening p)
unfolding opening
opening_shape p = record {
  count = starts_length p (elements p) 0;
  cells = λ e none h. starts_shape p (elements p) 0 e none (omega (arith, starts_length p (elements p) 0)) ∙ ap (cells_of p) (let q : 0 + e ≡ e = omega arith in q);
}

pub fold_shape : FoldIsShaped
unfolding fold
fold_shape p lines n = fold_from_shape p lines 0 (opening p) n (opening_shape p)
