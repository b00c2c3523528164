-- Each fault of a script is one that there can be.
use Rattle.std.proofs.Common.{◌≡◌, ℕ, zero, suc, ◌+◌, ◌-◌, ◌*◌, ◌<◌, ◌≤◌, Bool, true, false, cond, List, [], ◌∷◌, refl, ap, sym, ◌∙◌, subst, arith, Option, Some, None}
use Rattle.std.specs.Prelude.{IsTrue, nat_lt, slice_get, Ok, Err}
use Rattle.std.specs.List.{AllByRecursion}
use Rattle.std.proofs.lemmas.Bool.{and_parts, eqb-true, le-ltb, lt-ltb}
use Rattle.chare_base.specs.declared.plan.Array.{Array}
use Rattle.chare_base.specs.declared.plan.Plan.{Plan}
use Rattle.chare_base.specs.declared.plan.State.{State}
use Rattle.chare_base.specs.Elements.{array_of, cells_of, place_in, place_of}
use Rattle.chare_base.specs.Layout.{numbered_from}
use Rattle.chare_base.specs.Sizes.{cells_in, size_of}
use Rattle.chare_base.proofs.Facts.{laid_out, states_are}
use Rattle.chare_base.proofs.Grid.{index_within}
use Rattle.fault_script.specs.declared.fault.Fault.{Fault}
use Rattle.fault_script.specs.declared.fault.FaultLine.{FaultLine}
use Rattle.fault_script.specs.declared.meaning.LineFault.TheVariants as why
use Rattle.fault_script.specs.Forms.{CrashLine, FlipLine, Line, line}
use Rattle.fault_script.specs.Forms as forms
use Rattle.fault_script.specs.Laws.{Fits, IsLine, ScriptsFit}
use Rattle.fault_script.specs.Meaning.{array_called, col, crash_within, crashed, fault_by, fault_in, flip_at, flip_in, flip_within, flipped, is_there, place, row, state_called}
use Rattle.fault_script.specs.Text.{words}
use Rattle.fault_script.proofs.Following.{scripts_follow}
use Rattle.fault_script.proofs.Placed.{ArrayIn, array_in, cells_within, elements_within, numbered_at}
use Rattle.fault_script.proofs.Ranges.{Crashes, Flips, crashes, flips}

-- ---- the array of an element

beyond : (n first size later e : ℕ) → first ≡ n → n + size ≤ later → later ≤ e → nat_lt e (first + size) ≡ false
beyond n first size later e same behind from = le-ltb e (first + size) (omega arith)

next : (number k : ℕ) → suc number + k ≡ number + suc k
next number k = omega arith

-- an element of an array stands in that array
placed_in : (n number k : ℕ) (arrays : List Array) (a : Array) (e : ℕ) → IsTrue (numbered_from n arrays) → slice_get arrays k ≡ Some a → a.first ≤ e → e < a.first + size_of a →
    (place_in number arrays e).array ≡ number + k
placed_in n number k [] a e h is from below = cc
placed_in n number zero (b ∷ more) a e h is from below =
    let same : b ≡ a = cc in
    let here : nat_lt e (b.first + size_of b) ≡ true = subst (λ (x : Array). nat_lt e (x.first + size_of x) ≡ true) (sym same) (lt-ltb e (a.first + size_of a) below) in
    ap (λ t. (cond t (record { array = number; index = e - b.first }) (place_in (suc number) more e)).array) here ∙ (let q : number ≡ number + 0 = omega arith in q)
placed_in n number (suc k) (b ∷ more) a e h is from below =
    let past : nat_lt e (b.first + size_of b) ≡ false =
    beyond n b.first (size_of b) a.first e (eqb-true b.first n (and_parts _ _ h).0) (numbered_at (n + size_of b) k more a (and_parts _ _ h).1 is).0 from in
    ap (λ t. (cond t (record { array = number; index = e - b.first }) (place_in (suc number) more e)).array) past
    ∙ placed_in (n + size_of b) (suc number) k more a e (and_parts _ _ h).1 is from below ∙ next number k

array_is : (p : Plan) (a : Array) (in_plan : ArrayIn p a) (e : ℕ) → a.first ≤ e → e < a.first + size_of a → array_of p e ≡ Some a
unfolding place_of
array_is p a in_plan e from below =
    ap (slice_get p.arrays) (placed_in 0 0 in_plan.number p.arrays a e (laid_out p).numbered in_plan.is from below ∙ (let q : 0 + in_plan.number ≡ in_plan.number = omega arith in q)) ∙ in_plan.is

-- ---- flips

module _ (p : Plan) (nodes : ℕ) where
  flipped_fits : (f : FlipLine) (a : Array) (s : State) → ArrayIn p a → state_called f.cell.state a.states ≡ Some s → IsTrue (flip_within p.iterations f a s) → Fits p nodes (flipped f a s)
  flipped_fits f a s in_plan called h =
      let all : Flips p.iterations f a s = flips p.iterations f a s h in
      let index : row f.element * a.cols + col f.element < size_of a = index_within (row f.element) (col f.element) a.rows a.cols all.row all.col in
      let e : ℕ = a.first + row f.element * a.cols + col f.element in
      let from : a.first ≤ a.first + row f.element * a.cols + col f.element = omega arith in
      let below : a.first + row f.element * a.cols + col f.element < a.first + size_of a = omega (arith, index) in
      let is : array_of p (a.first + row f.element * a.cols + col f.element) ≡ Some a = array_is p a in_plan (a.first + row f.element * a.cols + col f.element) from below in
      let cells : cells_of p (a.first + row f.element * a.cols + col f.element) ≡ cells_in a.states = ap cells_in (states_are p (a.first + row f.element * a.cols + col f.element) a is) in (
        all.replica,
        omega (arith, below, elements_within p a in_plan),
        subst (λ n. s.at + place f.cell < n) (sym cells) (omega (arith, all.place, cells_within p a in_plan f.cell.state s called)),
        all.some,
        all.mask,
        all.at,
      )

  ranged : (f : FlipLine) (a : Array) (s : State) (t u : Bool) (fault : Fault) → flip_within p.iterations f a s ≡ u → cond t (cond u (Ok (flipped f a s)) (Err why.Range)) (Err why.NoSuch) ≡ Ok fault →
      ArrayIn p a → state_called f.cell.state a.states ≡ Some s → Fits p nodes fault
  ranged f a s true true fault is e in_plan called = let same : flipped f a s ≡ fault = cc in subst (Fits p nodes) same (flipped_fits f a s in_plan called is)
  ranged f a s true false fault is e in_plan called = cc
  ranged f a s false u fault is e in_plan called = cc

  state_by : (f : FlipLine) (a : Array) (fault : Fault) → ArrayIn p a → (o : Option State) → state_called f.cell.state a.states ≡ o → flip_at p.iterations f a o ≡ Ok fault → Fits p nodes fault
  state_by f a fault in_plan None called e = cc
  state_by f a fault in_plan (Some s) called e = ranged f a s (is_there f a s) (flip_within p.iterations f a s) fault refl e in_plan called

  array_by : (f : FlipLine) (fault : Fault) (o : Option Array) → array_called f.element.array p.arrays ≡ o → flip_in p.iterations f o ≡ Ok fault → Fits p nodes fault
  array_by f fault None called e = cc
  array_by f fault (Some a) called e = state_by f a fault (array_in p f.element.array a called) (state_called f.cell.state a.states) refl e

  -- ---- crashes

  crash_by : (c : CrashLine) (t : Bool) (fault : Fault) → crash_within p.iterations nodes c ≡ t → cond t (Ok (crashed c)) (Err why.Range) ≡ Ok fault → Fits p nodes fault
  crash_by c true fault is e =
      let same : crashed c ≡ fault = cc in
      let all : Crashes p nodes c = crashes p nodes c is in
      subst (Fits p nodes) same (all.replica, all.node, all.at)
  crash_by c false fault is e = cc

  -- ---- lines

  line_fits : (o : Option Line) (fault : Fault) → fault_by p nodes o ≡ Ok fault → Fits p nodes fault
  line_fits None fault e = cc
  line_fits (Some (forms.Flip f)) fault e = array_by f fault (array_called f.element.array p.arrays) refl e
  line_fits (Some (forms.Crash c)) fault e = crash_by c (crash_within p.iterations nodes c) fault refl e

  fault_fits : (text : List ℕ) (fault : Fault) → fault_in p nodes text ≡ Ok fault → Fits p nodes fault
  unfolding fault_in
  fault_fits text fault e = line_fits (line (words text)) fault e

  all_fit : (text : List ℕ) (script : List FaultLine) → AllByRecursion (IsLine p nodes text) script → AllByRecursion (λ l. Fits p nodes l.fault) script
  all_fit text [] h = tt
  all_fit text (l ∷ more) h = (fault_fits h.0.line l.fault h.0.spelled, all_fit text more h.1)

pub scripts_fit : ScriptsFit
scripts_fit p nodes text script is = all_fit p nodes text script (scripts_follow p nodes text script is).lines
