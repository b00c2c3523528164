-- Each slip of a fold is none, or one of the element's steps in a completed iteration.
use Rattle.std.proofs.Common.{◌≡◌, ℕ, zero, suc, ◌<◌, ◌≤◌, ◌⊎◌, Bool, true, false, List, [], ◌∷◌, length, refl, ap, sym, ◌∙◌, arith, inl, inr, subst}
use Rattle.std.specs.Prelude.{◌==◌, ◌&&◌, if◌then◌else◌, min}
use Rattle.std.proofs.lemmas.Bool.{cases_lt}
use Rattle.chare_base.specs.declared.cells.Cells.{Cells}
use Rattle.chare_base.specs.declared.cells.Slip.{Slip}
use Rattle.chare_base.specs.declared.plan.Part.{Part}
use Rattle.chare_base.specs.declared.plan.Plan.{Plan}
use Rattle.chare_base.specs.Elements.{elements, parts_at, steps_in_round, steps_of}
use Rattle.chare_base.specs.Flip.{Flip}
use Rattle.chare_eval.specs.Value.{least_kind}
use Rattle.chare_eval.specs.Block.{Effect, noted, quiet, scene_of, slip_after}
use Rattle.chare_eval.specs.Fold.{fold, fold_from}
use Rattle.chare_eval.specs.Opening.{no_slip, opening, start_of, starts_from}
use Rattle.chare_eval.specs.Stage.{Inbox, given, part_runs, parts_run, state_at, step_of, with_flip}
use Rattle.chare_eval.specs.Inside.{cells_before, cells_between, messages_to, struck_at}
use Rattle.chare_eval.specs.Laws.{Noted, SlipsAreNoted}
use Rattle.chare_eval.proofs.Frames.{block_framed}
use Rattle.chare_eval.proofs.Order.{does}
use Rattle.chare_eval.proofs.Shapes.{fold_shape}
use Rattle.chare_eval.proofs.Strikes.{begins, struck_local}
use Rattle.chare_eval.proofs.Steps.{fold_next, next_before, no_parts}

-- ---- one slip

abbrev Fine : ℕ → ℕ → Slip → Type 0
Fine steps iterations slip = (slip ≡ no_slip) ⊎ Noted steps iterations slip

later : (steps k : ℕ) (slip : Slip) → Fine steps k slip → Fine steps (suc k) slip
later steps k slip fine = elim fine [
  | inl none ↦ inl none
  | inr n ↦ inr (record { some = n.some; kinds = n.kinds; step = n.step; iteration = omega (arith, n.iteration) })
]

module _ (steps iterations s k : ℕ) (h : s < steps) (l : k < iterations) where
  abbrev slip : ℕ → Slip
  slip kind = record { kind = kind; step = s; iteration = k }

  new : (kind : ℕ) → 1 ≤ kind → kind ≤ 3 → Fine steps iterations (slip kind)
  new kind some few = inr (record { some = some; kinds = few; step = h; iteration = l })

  both : (test : Bool) (kept : Slip) (a b : ℕ) → kept.kind ≡ suc a → suc b ≤ 3 → Fine steps iterations kept → Fine steps iterations (if test then slip (least_kind kept.kind (suc b)) else kept)
  both true kept a b is few fine =
      subst (λ n. Fine steps iterations (slip (least_kind n (suc b)))) (sym is) (new (min (suc a) (suc b)) (omega arith) (omega (arith, few)))
  both false kept a b is few fine = fine

  noted_fine : (kept : Slip) (a b : ℕ) → kept.kind ≡ a → suc b ≤ 3 → Fine steps iterations kept → Fine steps iterations (noted s k (suc b) a kept)
  noted_fine kept zero b is few fine = new (suc b) (omega arith) few
  noted_fine kept (suc a) b is few fine = both (kept.step == s && kept.iteration == k) kept a b is few fine

  after_fine : (kind : ℕ) (kept : Slip) → kind ≤ 3 → Fine steps iterations kept → Fine steps iterations (slip_after s k kind kept)
  after_fine zero kept few fine = fine
  after_fine (suc kind) kept few fine = noted_fine kept kept.kind kind refl few fine

  parts_fine : (p : Plan) (e : ℕ) (box : Inbox) (parts : List Part) (f : Effect) → Fine steps iterations f.cells.slip → Fine steps iterations (parts_run p e s k box parts f).cells.slip
  parts_fine p e box [] f fine = fine
  parts_fine p e box (part ∷ more) f fine =
      let kind = (does p e s k box part f.cells.numbers).kind in
      parts_fine p e box more (part_runs p e s k box part f)
      (after_fine kind f.cells.slip ((block_framed p e part.block (scene_of p e k (given part.need box))).few f.cells.numbers) fine)

step_fine : (p : Plan) (s k e : ℕ) (box : Inbox) (cells : Cells) → Fine (length (steps_of p e)) (suc k) cells.slip → Fine (length (steps_of p e)) (suc k) (step_of p s k e box cells).cells.slip
step_fine p s k e box cells fine = elim (cases_lt s (length (steps_of p e))) [
  | inl here ↦ parts_fine (length (steps_of p e)) (suc k) s k here (omega arith) p e box (parts_at p e s) (quiet cells) fine
  | inr beyond ↦ subst (λ parts. Fine (length (steps_of p e)) (suc k) (parts_run p e s k box parts (quiet cells)).cells.slip) (sym (no_parts p e s beyond)) fine
]

-- ---- flips leave it

struck_slip : (lines : List Flip) (k e : ℕ) (cells : Cells) → (struck_at lines k e cells).slip ≡ cells.slip
struck_slip [] k e cells = refl
struck_slip (f ∷ more) k e cells = struck_slip more k e (if f.at == k && f.element == e then with_flip f cells else cells) ∙ by (f.at == k && f.element == e)
  where
    by : (b : Bool) → (if b then with_flip f cells else cells).slip ≡ cells.slip
    by true = refl
    by false = refl

-- ---- the fold

module _ (p : Plan) (lines : List Flip) (e : ℕ) (f : e < elements p) where
  abbrev steps : ℕ
  steps = length (steps_of p e)

  inside_fine : (k s : ℕ) → s ≤ steps_in_round p → Fine steps (suc k) (cells_between p lines k e).slip → Fine steps (suc k) (cells_before p lines k s e).slip
  inside_fine k zero h fine =
      let same : (cells_before p lines k 0 e).slip ≡ (cells_between p lines k e).slip =
      ap (λ (c : Cells). c.slip) (begins p lines k e ∙ struck_local lines k (fold p lines k) e (omega (arith, f, (fold_shape p lines k).count))) ∙ struck_slip lines k e (cells_between p lines k e) in
      subst (Fine steps (suc k)) (sym same) fine
  inside_fine k (suc s) h fine =
      subst (λ (c : Cells). Fine steps (suc k) c.slip) (sym (next_before p lines k s e (omega (arith, h)) f))
      (step_fine p s k e (messages_to p lines k e) (cells_before p lines k s e) (inside_fine k s (omega (arith, h)) fine))

start_slip : (p : Plan) (n e i : ℕ) → (state_at (starts_from p n e) i).slip ≡ no_slip
unfolding start_of
start_slip p zero e i = refl
start_slip p (suc n) e zero = refl
start_slip p (suc n) e (suc i) = start_slip p n (suc e) i

opening_slip : (p : Plan) (lines : List Flip) (e : ℕ) → (cells_between p lines 0 e).slip ≡ no_slip
unfolding fold fold_from opening
opening_slip p lines e = start_slip p (elements p) 0 e

pub slips_are_noted : SlipsAreNoted
slips_are_noted p lines zero e f = inl (opening_slip p lines e)
slips_are_noted p lines (suc n) e f =
    subst (λ all. Fine (length (steps_of p e)) (suc n) (state_at all e).slip) (sym (fold_next p lines n))
    (inside_fine p lines e f n (steps_in_round p) (omega arith) (later (length (steps_of p e)) n (cells_between p lines n e).slip (slips_are_noted p lines n e f)))
