-- The cells of a fold are numbers of 64 bits.
use Rattle.std.proofs.Common.{ℕ, zero, suc, ◌+◌, ℤ, Bool, true, false, cond, List, [], ◌∷◌, ◌++◌, set, arith}
use Rattle.std.specs.Prelude.{◌==◌, FitsSigned, bit_xor}
use Rattle.std.specs.Int.{w64, cast_signed, cast_unsigned}
use Rattle.std.specs.List.{AllByRecursion}
use Rattle.std.proofs.lemmas.Int.{SFits-int_wrap}
use borrow.Author.Differences.{fits_in, read_fits}
use Rattle.chare_base.specs.declared.cells.Cells.{Cells}
use Rattle.chare_base.specs.declared.expression.Expr.{Expr}
use Rattle.chare_base.specs.declared.plan.Part.{Part}
use Rattle.chare_base.specs.declared.plan.Plan.{Plan}
use Rattle.chare_base.specs.declared.plan.State.{State}
use Rattle.chare_base.specs.Elements.{elements, parts_at, states_of, steps_in_round}
use Rattle.chare_base.specs.Entries.{nothing}
use Rattle.chare_base.specs.Flip.{Flip}
use Rattle.chare_eval.specs.declared.value.Scene.{Scene}
use Rattle.chare_eval.specs.Value.{number_at, value_of}
use Rattle.chare_eval.specs.Block.{Effect, quiet, scene_of}
use Rattle.chare_eval.specs.Fold.{fold, fold_from}
use Rattle.chare_eval.specs.Laws.{FoldsFit, NumbersFit}
use Rattle.chare_eval.specs.Opening.{cell_starts, opening, start_of, starts, starts_from}
use Rattle.chare_eval.specs.Stage.{Board, Inbox, effect, flipped, given, inbox, part_runs, parts_run, ran, round, stage, state_at, struck, with_flip}
use Rattle.chare_eval.proofs.Frames.{AllFit, block_framed, set_fits}

-- ---- states in a list

abbrev StatesFit : List Cells → Type 0
StatesFit all = AllByRecursion NumbersFit all

at_fits : (all : List Cells) (e : ℕ) → StatesFit all → NumbersFit (state_at all e)
at_fits [] e h = tt
at_fits (c ∷ more) zero h = h.0
at_fits (c ∷ more) (suc e) h = at_fits more e h.1

put_fits : (all : List Cells) (e : ℕ) (cells : Cells) → StatesFit all → NumbersFit cells → StatesFit (set all e cells)
put_fits [] e cells h fit = tt
put_fits (c ∷ more) zero cells h fit = (fit, h.1)
put_fits (c ∷ more) (suc e) cells h fit = (h.0, put_fits more e cells h.1 fit)

-- ---- an iteration

parts_fit : (p : Plan) (e s k : ℕ) (box : Inbox) (parts : List Part) (f : Effect) → NumbersFit f.cells → NumbersFit (parts_run p e s k box parts f).cells
parts_fit p e s k box [] f h = h
parts_fit p e s k box (part ∷ more) f h =
    parts_fit p e s k box more (part_runs p e s k box part f) ((block_framed p e part.block (scene_of p e k (given part.need box))).fits f.cells.numbers h)

ran_fits : (p : Plan) (s k e : ℕ) (b : Board) → StatesFit b.states → StatesFit (ran p s k e b).states
unfolding ran
ran_fits p s k zero b h = h
ran_fits p s k (suc e) b h =
    let now = ran p s k e b in
    let before = ran_fits p s k e b h in
    put_fits now.states e (effect p s k e now).cells before (parts_fit p e s k (inbox p now.mail e) (parts_at p e s) (quiet (state_at now.states e)) (at_fits now.states e before))

-- any bits are those of a number of 64 bits
bits_fit : (n : ℕ) → FitsSigned w64 (cast_signed w64 n)
bits_fit n = omega (arith, fits_in, read_fits w64 n)

flip_fits : (f : Flip) (cells : Cells) → NumbersFit cells → NumbersFit (with_flip f cells)
flip_fits f cells h =
    set_fits cells.numbers f.cell (flipped f.mask (number_at cells.numbers f.cell)) h (bits_fit (bit_xor (cast_unsigned w64 (number_at cells.numbers f.cell)) f.mask))

struck_fits : (lines : List Flip) (k : ℕ) (all : List Cells) → StatesFit all → StatesFit (struck lines k all)
struck_fits [] k all h = h
struck_fits (f ∷ more) k all h = struck_fits more k (cond (f.at == k) (set all f.element (with_flip f (state_at all f.element))) all) (by (f.at == k))
  where
    by : (b : Bool) → StatesFit (cond b (set all f.element (with_flip f (state_at all f.element))) all)
    by true = put_fits all f.element (with_flip f (state_at all f.element)) h (flip_fits f (state_at all f.element) (at_fits all f.element h))
    by false = h

stage_fits : (p : Plan) (lines : List Flip) (k : ℕ) (all : List Cells) (s : ℕ) → StatesFit all → StatesFit (stage p lines k all s).states
unfolding stage
stage_fits p lines k all zero h = struck_fits lines k all h
stage_fits p lines k all (suc s) h = ran_fits p s k (elements p) (stage p lines k all s) (stage_fits p lines k all s h)

fold_from_fits : (p : Plan) (lines : List Flip) (k : ℕ) (all : List Cells) (n : ℕ) → StatesFit all → StatesFit (fold_from p lines k all n)
unfolding fold_from round
fold_from_fits p lines k all zero h = h
fold_from_fits p lines k all (suc n) h = stage_fits p lines (k + n) (fold_from p lines k all n) (steps_in_round p) (fold_from_fits p lines k all n h)

-- ---- the opening

both_fit : (xs ys : List ℤ) → AllFit xs → AllFit ys → AllFit (xs ++ ys)
both_fit [] ys h g = g
both_fit (x ∷ xs) ys h g = (h.0, both_fit xs ys h.1 g)

cell_starts_fit : (scene : Scene) (start : Expr) (which n : ℕ) → AllFit (cell_starts scene start which n)
cell_starts_fit scene start which zero = tt
cell_starts_fit scene start which (suc n) = (SFits-int_wrap w64 (value_of start (record scene { which = which }) []).value, cell_starts_fit scene start (suc which) n)

states_fit : (scene : Scene) (states : List State) → AllFit (starts scene states)
states_fit scene [] = tt
states_fit scene (s ∷ more) = both_fit (cell_starts scene s.start 0 s.cells) (starts scene more) (cell_starts_fit scene s.start 0 s.cells) (states_fit scene more)

start_fits : (p : Plan) (e : ℕ) → NumbersFit (start_of p e)
unfolding start_of
start_fits p e = states_fit (scene_of p e 0 nothing) (states_of p e)

starts_fit : (p : Plan) (n e : ℕ) → StatesFit (starts_from p n e)
starts_fit p zero e = tt
starts_fit p (suc n) e = (start_fits p e, starts_fit p n (suc e))

opening_fits : (p : Plan) → StatesFit (opening p)
unfolding opening
opening_fits p = starts_fit p (elements p) 0

pub folds_fit : FoldsFit
unfolding fold
folds_fit p lines n = fold_from_fits p lines 0 (opening p) n (opening_fits p)
