-- Each line of a script is one of its text, in the text's order, and there are few.
use Rattle.std.proofs.Common.{◌≡◌, ℕ, suc, ◌+◌, ◌<◌, ◌≤◌, Bool, true, false, cond, List, [], ◌∷◌, length, refl, ap, sym, ◌∙◌, subst, arith, Option, Some, None}
use Rattle.std.specs.Prelude.{nat_lt, slice_get, Result, Ok, Err}
use Rattle.std.specs.List.{AllByRecursion, cons_option, enumerate_from, filter, filter_map}
use Rattle.std.specs.Str.Lines.{lines}
use Rattle.std.proofs.lemmas.Bool.{ltb-true}
use Rattle.chare_base.specs.declared.plan.Plan.{Plan}
use Rattle.fault_script.specs.declared.fault.Fault.{Fault}
use Rattle.fault_script.specs.declared.fault.FaultLine.{FaultLine}
use Rattle.fault_script.specs.declared.meaning.LineFault.{LineFault}
use Rattle.fault_script.specs.declared.reading.ScriptFault.{ScriptFault}
use Rattle.fault_script.specs.declared.reading.ScriptFault.TheVariants as faults
use Rattle.fault_script.specs.Laws.{Ascend, Follows, IsLine, ScriptsFollow}
use Rattle.fault_script.specs.Meaning.{fault_in}
use Rattle.fault_script.specs.Reading.{all_wrong, line_by, line_of, lines_of, script_of, unless, wrong, wrong_by}
use Rattle.fault_script.specs.Text.{fault_lines, is_fault_line}

module _ (p : Plan) (nodes : ℕ) where
  abbrev fault_lines_from : ℕ → List (List ℕ) → List (ℕ × List ℕ)
  fault_lines_from number ls = filter (λ (l : ℕ × List ℕ). is_fault_line l.1) (enumerate_from number ls)

  abbrev found : List (ℕ × List ℕ) → List FaultLine
  found ls = filter_map (line_of p nodes) ls

  -- ---- there are few

  none_here : {A : Type 0} (o : Option A) (more : List A) → cons_option o more ≡ [] → (o ≡ None) × (more ≡ [])
  none_here None more e = (refl, e)
  none_here (Some x) more e = cc

  early : (t : Bool) (n : ℕ) (r : Result Fault LineFault) (number : ℕ) → nat_lt n 64 ≡ t → cond t (wrong_by number r) (Some (faults.Lines number)) ≡ None → n < 64
  early true n r number is e = ltb-true n 64 is
  early false n r number is e = cc

  one_more : (o : Option FaultLine) (more : List FaultLine) → length (cons_option o more) ≤ 1 + length more
  one_more None more = omega arith
  one_more (Some l) more = omega arith

  few_from : (n : ℕ) (ls : List (ℕ × List ℕ)) → n ≤ 64 → filter_map (wrong p nodes) (enumerate_from n ls) ≡ [] → n + length (found ls) ≤ 64
  few_from n [] few e = omega arith
  few_from n (l ∷ more) few e =
      let parts = none_here (wrong p nodes (n, l)) (filter_map (wrong p nodes) (enumerate_from (n + 1) more)) e in
      let here : n < 64 = early (nat_lt n 64) n (fault_in p nodes l.1) l.0 refl parts.0 in
      let rest : n + 1 + length (found more) ≤ 64 = few_from (n + 1) more (omega arith) parts.1 in
      omega (arith, here, rest, one_more (line_of p nodes l) (found more))

  -- ---- they ascend

  ascend_by : (last number : ℕ) (t : Bool) (line : List ℕ) (r : Result Fault LineFault) (more : List (ℕ × List ℕ)) → fault_in p nodes line ≡ r → last < number →
      ((k : ℕ) → k < number + 1 → Ascend k (found more)) → Ascend last (found (cond t ((number, line) ∷ more) more))
  ascend_by last number false line r more e below rest = rest last (omega arith)
  ascend_by last number true line (Ok fault) more e below rest =
      let P : Result Fault LineFault → Type 0 = λ x. Ascend last (cons_option (line_by number x) (found more)) in
      subst P (sym e) (below, rest number (omega arith))
  ascend_by last number true line (Err f) more e below rest =
      let P : Result Fault LineFault → Type 0 = λ x. Ascend last (cons_option (line_by number x) (found more)) in
      subst P (sym e) (rest last (omega arith))

  ascend_from : (last number : ℕ) (ls : List (List ℕ)) → last < number → Ascend last (found (fault_lines_from number ls))
  ascend_from last number [] below = tt
  ascend_from last number (line ∷ more) below =
      ascend_by last number (is_fault_line line) line (fault_in p nodes line) (fault_lines_from (number + 1) more) refl below (λ k h. ascend_from k (number + 1) more h)

  -- ---- each is a line of the text

  module _ (text : List ℕ) where
    spelled_by : (before : ℕ) (t : Bool) (line : List ℕ) (r : Result Fault LineFault) (more : List (ℕ × List ℕ)) → fault_in p nodes line ≡ r → slice_get (lines text) before ≡ Some line →
        AllByRecursion (IsLine p nodes text) (found more) → AllByRecursion (IsLine p nodes text) (found (cond t ((before + 1, line) ∷ more) more))
    spelled_by before false line r more e here rest = rest
    spelled_by before true line (Ok fault) more e here rest =
        let P : Result Fault LineFault → Type 0 = λ x. AllByRecursion (IsLine p nodes text) (cons_option (line_by (before + 1) x) (found more)) in
        subst P (sym e) (record { before = before; number = refl; line = line; is = here; spelled = e }, rest)
    spelled_by before true line (Err f) more e here rest =
        let P : Result Fault LineFault → Type 0 = λ x. AllByRecursion (IsLine p nodes text) (cons_option (line_by (before + 1) x) (found more)) in
        subst P (sym e) rest

    -- these are the lines of the text behind the first ones
    abbrev Behind : ℕ → List (List ℕ) → Type 0
    Behind before ls = (k : ℕ) → slice_get (lines text) (before + k) ≡ slice_get ls k

    spelled_from : (before : ℕ) (ls : List (List ℕ)) → Behind before ls → AllByRecursion (IsLine p nodes text) (found (fault_lines_from (before + 1) ls))
    spelled_from before [] behind = tt
    spelled_from before (line ∷ more) behind =
        let here : slice_get (lines text) before ≡ Some line = ap (slice_get (lines text)) (let e : before ≡ before + 0 = omega arith in e) ∙ behind 0 in
        let next : Behind (before + 1) more = λ k. ap (slice_get (lines text)) (let e : before + 1 + k ≡ before + suc k = omega arith in e) ∙ behind (suc k) in
        spelled_by before (is_fault_line line) line (fault_in p nodes line) (fault_lines_from (before + 1 + 1) more) refl here (spelled_from (before + 1) more next)

    -- ---- scripts

    parts_by : (faulty : List ScriptFault) (kept script : List FaultLine) → unless faulty kept ≡ Ok script → (faulty ≡ []) × (kept ≡ script)
    parts_by [] kept script e = (refl, (let same : kept ≡ script = cc in same))
    parts_by (f ∷ more) kept script e = cc

    start : Behind 0 (lines text)
    start k = ap (slice_get (lines text)) (let e : 0 + k ≡ k = omega arith in e)

    follows : (script : List FaultLine) → script_of p nodes text ≡ Ok script → Follows p nodes text script
    unfolding script_of all_wrong lines_of fault_lines
    follows script e =
        let parts = parts_by (all_wrong p nodes text) (lines_of p nodes text) script e in
        let all : (0 + length (found (fault_lines text)) ≤ 64) = few_from 0 (fault_lines text) (omega arith) parts.0 in
        subst (Follows p nodes text) parts.1 (record {
          few = omega (arith, all);
          ascend = ascend_from 0 1 (lines text) (omega arith);
          lines = spelled_from 0 (lines text) start;
        })

pub scripts_follow : ScriptsFollow
scripts_follow p nodes text script is = follows p nodes text script is
