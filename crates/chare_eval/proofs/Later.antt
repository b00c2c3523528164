-- Folds with alike flips.
use Rattle.std.proofs.Common.{◌≡◌, ℕ, zero, suc, ◌+◌, ◌-◌, ◌≤◌, Bool, true, false, cond, List, [], ◌∷◌, None, refl, ap, sym, ◌∙◌, arith}
use Rattle.std.specs.Prelude.{◌==◌, nat_le, slice_set, unwrap_or}
use Rattle.std.proofs.lemmas.Bool.{eqb-true, leb-false}
use Rattle.chare_base.specs.declared.cells.Cells.{Cells}
use Rattle.chare_base.specs.declared.plan.Plan.{Plan}
use Rattle.chare_base.specs.Elements.{elements, parts_at, place_of, steps_in_round, steps_of}
use Rattle.chare_base.specs.Flip.{Flip}
use Rattle.chare_base.specs.Ports.{sending_step, total_port}
use Rattle.chare_eval.specs.Fold.{fold, fold_from}
use Rattle.chare_eval.specs.Inside.{cells_inside, is_done, is_number, message_to, port_array, set_runs}
use Rattle.chare_eval.specs.Laws.{contribution_of, first_number}
use Rattle.chare_eval.specs.Opening.{opening}
use Rattle.chare_eval.specs.Stage.{Board, contributions, inbox, ran, round, stage, state_at, step_of, struck, with_flip}
use Rattle.chare_eval.specs.Later.{LaterFlipsDecide, LaterFlipsDecideInside, flips_from}

-- ---- what strikes as an iteration begins

abbrev hit : Flip → ℕ → List Cells → List Cells
hit f k all = cond (f.at == k) (slice_set all f.element (with_flip f (state_at all f.element))) all

missed : (f : Flip) (k : ℕ) (all : List Cells) → (f.at ≡ k → ⊥) → hit f k all ≡ all
missed f k all other = by (f.at == k) refl
  where
    by : (b : Bool) → (f.at == k) ≡ b → cond b (slice_set all f.element (with_flip f (state_at all f.element))) all ≡ all
    by true h = absurd (other (eqb-true f.at k h))
    by false h = refl

struck_from : (lines : List Flip) (k n : ℕ) (all : List Cells) → k ≤ n → struck lines n all ≡ struck (flips_from k lines) n all
struck_from [] k n all h = refl
struck_from (f ∷ more) k n all h = by (nat_le k f.at) refl (struck_from more k n (hit f n all) h)
  where
    by : (b : Bool) → nat_le k f.at ≡ b → struck more n (hit f n all) ≡ struck (flips_from k more) n (hit f n all) → struck more n (hit f n all) ≡ struck (cond b (f ∷ flips_from k more) (flips_from k more)) n all
    by true t rest = rest
    by false t rest = rest ∙ ap (struck (flips_from k more) n) (missed f n all (λ same. absurd (omega (arith, same, leb-false k f.at t, h))))

-- ---- stages and rounds

same_stage : (p : Plan) (a b : List Flip) (k : ℕ) (all : List Cells) (s : ℕ) → struck a k all ≡ struck b k all → stage p a k all s ≡ stage p b k all s
unfolding stage
same_stage p a b k all zero same = ap (λ (xs : List Cells). record { states = xs; mail = [] }) same
same_stage p a b k all (suc s) same = ap (λ x. ran p s k (elements p) x) (same_stage p a b k all s same)

same_round : (p : Plan) (a b : List Flip) (k : ℕ) (all : List Cells) → struck a k all ≡ struck b k all → round p a k all ≡ round p b k all
unfolding round
same_round p a b k all same = ap (λ (x : Board). x.states) (same_stage p a b k all (steps_in_round p) same)

-- one iteration more
fold_next : (p : Plan) (lines : List Flip) (n : ℕ) → fold p lines (suc n) ≡ round p lines n (fold p lines n)
unfolding fold fold_from
fold_next p lines n = ap (λ k. round p lines k (fold_from p lines 0 (opening p) n)) (let q : 0 + n ≡ n = omega arith in q)

-- what strikes at an iteration is the same
same_struck : (a b : List Flip) (k n : ℕ) (all : List Cells) → k ≤ n → flips_from k a ≡ flips_from k b → struck a n all ≡ struck b n all
same_struck a b k n all h same = struck_from a k n all h ∙ ap (λ lines. struck lines n all) same ∙ sym (struck_from b k n all h)

-- m iterations later
later_by : (p : Plan) (a b : List Flip) (k m n : ℕ) → n ≡ m + k → flips_from k a ≡ flips_from k b → fold p a k ≡ fold p b k → fold p a n ≡ fold p b n
later_by p a b k zero n is same start = let q : n ≡ k = omega (arith, is) in ap (fold p a) q ∙ start ∙ ap (fold p b) (sym q)
later_by p a b k (suc m) n is same start =
    let j : ℕ = m + k in
    let q : n ≡ suc j = omega (arith, is) in
    ap (fold p a) q ∙ fold_next p a j ∙ same_round p a b j (fold p a j) (same_struck a b k j (fold p a j) (omega arith) same)
    ∙ ap (round p b j) (later_by p a b k m j refl same start) ∙ sym (fold_next p b j) ∙ ap (fold p b) (sym q)

pub later : LaterFlipsDecide
later p a b k n h same start = later_by p a b k (n - k) n (omega (arith, h)) same start

same_board : (p : Plan) (a b : List Flip) (k n s : ℕ) → k ≤ n → flips_from k a ≡ flips_from k b → fold p a k ≡ fold p b k → stage p a n (fold p a n) s ≡ stage p b n (fold p b n) s
same_board p a b k n s h same start =
    same_stage p a b n (fold p a n) s (same_struck a b k n (fold p a n) h same) ∙ ap (λ xs. stage p b n xs s) (later p a b k n h same start)

pub inside : LaterFlipsDecideInside
unfolding cells_inside message_to contribution_of
inside p a b k n h same start = record {
  cells = λ s done e.
      ap (λ (x : Board). set_runs p e s n (λ port. inbox p x.mail e port) (is_done done) 0 (parts_at p e s) (state_at (stage p a n (fold p a n) s).states e)) (board (steps_in_round p))
      ∙ ap (λ (x : Board). set_runs p e s n (λ port. inbox p (stage p b n (fold p b n) (steps_in_round p)).mail e port) (is_done done) 0 (parts_at p e s) (state_at x.states e)) (board s);
  messages = λ port e. ap (λ (x : Board). cond (is_number (place_of p e).array (port_array p port)) (inbox p x.mail e port) None) (board (steps_in_round p));
  contributions = λ r e.
      let s = unwrap_or (sending_step (total_port r) (steps_of p e)) 0 in
      ap (λ (x : Board). first_number (contributions (step_of p s n e (λ port. inbox p x.mail e port) (state_at (stage p a n (fold p a n) s).states e)).sent r)) (board (steps_in_round p))
      ∙ ap (λ (x : Board). first_number (contributions (step_of p s n e (λ port. inbox p (stage p b n (fold p b n) (steps_in_round p)).mail e port) (state_at x.states e)).sent r)) (board s);
}
  where
    board : (s : ℕ) → stage p a n (fold p a n) s ≡ stage p b n (fold p b n) s
    board s = same_board p a b k n s h same start
