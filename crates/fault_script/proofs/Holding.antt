-- What a line does is the same with its numbers as they are held.
use Rattle.std.proofs.Common.{◌≡◌, ℕ, ◌+◌, ◌*◌, ◌^◌, ◌<◌, ◌≤◌, Bool, true, false, cond, List, Option, Some, None, refl, ap, sym, ◌∙◌, arith, inl, inr}
use Rattle.std.specs.Prelude.{◌&&◌, IsTrue, nat_lt, unwrap_or, Result, Ok, Err}
use Rattle.std.specs.Option.{is_none, is_some, option_map}
use Rattle.std.proofs.lemmas.Bool.{cases_lt, le-ltb, lt-ltb}
use Rattle.chare_base.specs.declared.plan.Array.{Array}
use Rattle.chare_base.specs.declared.plan.Plan.{Plan}
use Rattle.chare_base.specs.declared.plan.State.{State}
use Rattle.chare_base.proofs.Facts.{iterations_few}
use Rattle.fault_script.specs.declared.fault.Fault.{Fault}
use Rattle.fault_script.specs.declared.fault.Fault.TheVariants as faults
use Rattle.fault_script.specs.declared.meaning.LineFault.{LineFault}
use Rattle.fault_script.specs.declared.meaning.LineFault.TheVariants as why
use Rattle.fault_script.specs.Forms.{Cell, CrashLine, Element, FlipLine, Line, line}
use Rattle.fault_script.specs.Forms as forms
use Rattle.fault_script.specs.Held.{cell_capped, crash_capped, element_capped, flip_capped, line_capped}
use Rattle.fault_script.specs.Meaning.{InRange, array_called, col, crash_fault, crash_within, crashed, fault_by, fault_in, flip_at, flip_fault, flip_in, flip_within, flipped, is_indexed, is_named, is_there, place, row, row_by, state_called}
use Rattle.fault_script.specs.Numbers.{capped}
use Rattle.fault_script.specs.Text.{words}
use Rattle.fault_script.proofs.Ranges.{Crashes, crashes, in_range}
use Rattle.fault_script.proofs.Placed.{ArrayIn, array_in, fits, cells_small}

-- ---- numbers

same_below : (n bound : ℕ) → bound ≤ 2 ^ 64 → nat_lt (capped n) bound ≡ nat_lt n bound
same_below n bound few =
    elim (cases_lt n bound) [
      | inl below ↦ lt-ltb (capped n) bound (omega arith) ∙ sym (lt-ltb n bound below)
      | inr past ↦ le-ltb (capped n) bound (omega arith) ∙ sym (le-ltb n bound past)
    ]

same_above : (n : ℕ) → nat_lt 0 (capped n) ≡ nat_lt 0 n
same_above n =
    elim (cases_lt 0 n) [
      | inl some ↦ lt-ltb 0 (capped n) (omega arith) ∙ sym (lt-ltb 0 n some)
      | inr none ↦ le-ltb 0 (capped n) (omega arith) ∙ sym (le-ltb 0 n none)
    ]

same_number : (n : ℕ) → n < 2 ^ 64 → capped n ≡ n
same_number n small = omega arith

-- ---- elements and cells

row_held : (first : ℕ) (second : Option ℕ) → row_by (capped first) (option_map capped second) ≡ capped (row_by first second)
row_held first None = omega arith
row_held first (Some n) = refl

col_held : (first : ℕ) (second : Option ℕ) → unwrap_or (option_map capped second) (capped first) ≡ capped (unwrap_or second first)
col_held first None = refl
col_held first (Some n) = refl

place_held : (o : Option ℕ) → unwrap_or (option_map capped o) 0 ≡ capped (unwrap_or o 0)
place_held None = omega arith
place_held (Some n) = refl

none_held : (o : Option ℕ) → is_none (option_map capped o) ≡ is_none o
none_held None = refl
none_held (Some n) = refl

some_held : (o : Option ℕ) → is_some (option_map capped o) ≡ is_some o
some_held None = refl
some_held (Some n) = refl

named_held : (flat : Bool) (e : Element) → is_named flat (element_capped e) ≡ is_named flat e
named_held flat e = λ i. cond flat (none_held e.second i) (some_held e.second i)

indexed_held : (plain : Bool) (c : Cell) → is_indexed plain (cell_capped c) ≡ is_indexed plain c
indexed_held plain c = λ i. cond plain (none_held c.place i) (some_held c.place i)

there_held : (f : FlipLine) (a : Array) (s : State) → is_there (flip_capped f) a s ≡ is_there f a s
there_held f a s = λ i. named_held a.flat f.element i && indexed_held s.plain f.cell i

-- ---- flips

module _ (iterations : ℕ) (f : FlipLine) (a : Array) (s : State) (often : iterations ≤ 2 ^ 64) (rows : a.rows ≤ 2 ^ 64) (cols : a.cols ≤ 2 ^ 64) (cells : s.cells ≤ 2 ^ 64) where
  within_held : flip_within iterations (flip_capped f) a s ≡ flip_within iterations f a s
  unfolding flip_within
  within_held =
      let r : nat_lt (row (element_capped f.element)) a.rows ≡ nat_lt (row f.element) a.rows = ap (λ n. nat_lt n a.rows) (row_held f.element.first f.element.second) ∙ same_below (row f.element) a.rows rows in
      let c : nat_lt (col (element_capped f.element)) a.cols ≡ nat_lt (col f.element) a.cols = ap (λ n. nat_lt n a.cols) (col_held f.element.first f.element.second) ∙ same_below (col f.element) a.cols cols in
      let p : nat_lt (place (cell_capped f.cell)) s.cells ≡ nat_lt (place f.cell) s.cells = ap (λ n. nat_lt n s.cells) (place_held f.cell.place) ∙ same_below (place f.cell) s.cells cells in
      let two : 2 ≤ 2 ^ 64 = omega arith in
      let full : 2 ^ 64 ≤ 2 ^ 64 = omega arith in
      λ i. same_below f.replica 2 two i && r i && c i && p i && same_above f.mask i && same_below f.mask (2 ^ 64) full i && same_below f.at iterations often i

  flipped_held : IsTrue (flip_within iterations f a s) → flipped (flip_capped f) a s ≡ flipped f a s
  flipped_held h =
      let ranges : InRange f a s = in_range iterations f a s often h in
      let k : capped f.at ≡ f.at = same_number f.at ranges.at in
      let m : capped f.mask ≡ f.mask = same_number f.mask ranges.mask in
      let p : place (cell_capped f.cell) ≡ place f.cell = place_held f.cell.place ∙ same_number (place f.cell) (omega (arith, ranges.place)) in
      let c : col (element_capped f.element) ≡ col f.element = col_held f.element.first f.element.second ∙ same_number (col f.element) (omega (arith, ranges.col)) in
      let r : row (element_capped f.element) ≡ row f.element = row_held f.element.first f.element.second ∙ same_number (row f.element) (omega (arith, ranges.row)) in
      let replica : capped f.replica ≡ f.replica = same_number f.replica (omega (arith, ranges.replica)) in
      λ i. faults.Flip (replica i) (record { 0 = a.first + r i * a.cols + c i }) (s.at + p i) (m i) (k i)

  ranged_by : (t : Bool) → flip_within iterations f a s ≡ t →
      ◌≡◌ {A = Result Fault LineFault} (cond t (Ok (flipped (flip_capped f) a s)) (Err why.Range)) (cond t (Ok (flipped f a s)) (Err why.Range))
  ranged_by true e = ap (λ x. Ok x) (flipped_held e)
  ranged_by false e = refl

  at_held : flip_at iterations (flip_capped f) a (Some s) ≡ flip_at iterations f a (Some s)
  at_held =
      ap (λ t. cond (is_there (flip_capped f) a s) (cond t (Ok (flipped (flip_capped f) a s)) (Err why.Range)) (Err why.NoSuch)) within_held
      ∙ ap (λ x. cond (is_there (flip_capped f) a s) x (Err why.NoSuch)) (ranged_by (flip_within iterations f a s) refl)
      ∙ ap (λ t. cond t (cond (flip_within iterations f a s) (Ok (flipped f a s)) (Err why.Range)) (Err why.NoSuch)) (there_held f a s)

module _ (p : Plan) (f : FlipLine) where
  often : p.iterations ≤ 2 ^ 64
  often = omega (arith, iterations_few p)

  state_by : (a : Array) → ArrayIn p a → (o : Option State) → state_called f.cell.state a.states ≡ o → flip_at p.iterations (flip_capped f) a o ≡ flip_at p.iterations f a o
  state_by a in_plan None e = refl
  state_by a in_plan (Some s) e =
      let fit = fits p a in_plan in
      at_held p.iterations f a s often (omega (arith, fit.rows.1)) (omega (arith, fit.cols.1)) (omega (arith, cells_small p a in_plan f.cell.state s e))

  array_by : (o : Option Array) → array_called f.element.array p.arrays ≡ o → flip_in p.iterations (flip_capped f) o ≡ flip_in p.iterations f o
  array_by None e = refl
  array_by (Some a) e = state_by a (array_in p f.element.array a e) (state_called f.cell.state a.states) refl

  flip_held : flip_fault p (flip_capped f) ≡ flip_fault p f
  flip_held = array_by (array_called f.element.array p.arrays) refl

-- ---- crashes

module _ (p : Plan) (nodes : ℕ) (c : CrashLine) (few : nodes ≤ 2 ^ 64) where
  crash_within_held : crash_within p.iterations nodes (crash_capped c) ≡ crash_within p.iterations nodes c
  unfolding crash_within
  crash_within_held =
      let two : 2 ≤ 2 ^ 64 = omega arith in
      let often : p.iterations ≤ 2 ^ 64 = omega (arith, iterations_few p) in
      λ i. same_below c.replica 2 two i && same_below c.node nodes few i && same_below c.at p.iterations often i

  crashed_held : IsTrue (crash_within p.iterations nodes c) → crashed (crash_capped c) ≡ crashed c
  crashed_held h =
      let ranges : Crashes p nodes c = crashes p nodes c h in
      let r : capped c.replica ≡ c.replica = same_number c.replica (omega (arith, ranges.replica)) in
      let j : capped c.node ≡ c.node = same_number c.node (omega (arith, ranges.node)) in
      let k : capped c.at ≡ c.at = same_number c.at (omega (arith, ranges.at, iterations_few p)) in
      λ i. faults.Crash (record { replica = r i; node = j i }) (k i)

  crash_by : (t : Bool) → crash_within p.iterations nodes c ≡ t →
      ◌≡◌ {A = Result Fault LineFault} (cond t (Ok (crashed (crash_capped c))) (Err why.Range)) (cond t (Ok (crashed c)) (Err why.Range))
  crash_by true e = ap (λ x. Ok x) (crashed_held e)
  crash_by false e = refl

  crash_held : crash_fault p nodes (crash_capped c) ≡ crash_fault p nodes c
  crash_held =
      ap (λ t. cond t (Ok (crashed (crash_capped c))) (Err why.Range)) crash_within_held ∙ crash_by (crash_within p.iterations nodes c) refl

-- ---- lines

line_held : (p : Plan) (nodes : ℕ) (o : Option Line) → nodes ≤ 2 ^ 64 → fault_by p nodes (option_map line_capped o) ≡ fault_by p nodes o
line_held p nodes None few = refl
line_held p nodes (Some (forms.Flip f)) few = flip_held p f
line_held p nodes (Some (forms.Crash c)) few = crash_held p nodes c few

-- what a line does, from how its form is held
pub fault_told : (p : Plan) (nodes : ℕ) (text : List ℕ) (held : Option Line) → nodes < 2 ^ 16 → held ≡ option_map line_capped (line (words text)) → fault_by p nodes held ≡ fault_in p nodes text
unfolding fault_in
fault_told p nodes text held few e = ap (fault_by p nodes) e ∙ line_held p nodes (line (words text)) (omega arith)
