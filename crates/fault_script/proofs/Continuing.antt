-- Reading line after line gives the script of a text, or its first fault.
use Rattle.std.proofs.Common.{◌≡◌, ℕ, ◌+◌, Bool, true, false, cond, List, [], ◌∷◌, ◌++◌, length, refl, ap, sym, ◌∙◌, append_assoc, append-nil, length-append, Some}
use Rattle.std.specs.Prelude.{nat_lt, Result, Ok, Err}
use Rattle.std.specs.List.{cons_option, enumerate_from, filter, filter_map}
use Rattle.std.specs.Str.Lines.{lines}
use Rattle.chare_base.specs.declared.plan.Plan.{Plan}
use Rattle.fault_script.specs.declared.fault.Fault.{Fault}
use Rattle.fault_script.specs.declared.fault.FaultLine.{FaultLine}
use Rattle.fault_script.specs.declared.meaning.LineFault.{LineFault}
use Rattle.fault_script.specs.declared.reading.ScriptFault.{ScriptFault}
use Rattle.fault_script.specs.declared.reading.ScriptFault.TheVariants as faults
use Rattle.fault_script.specs.Meaning.{fault_in}
use Rattle.fault_script.specs.OneLine.{Adds, added, added_by}
use Rattle.fault_script.specs.Reading.{Reads, all_wrong, line_by, line_of, lines_of, script_of, unless, wrong, wrong_by}
use Rattle.fault_script.specs.Text.{fault_lines, is_fault_line}

abbrev Read : Type 0
Read = Result (List FaultLine) ScriptFault

-- the first fault ends reading
abbrev then : Read → (List FaultLine → Read) → Read
then (Ok kept) more = more kept
then (Err fault) more = Err fault

-- what comes of these lines, the first of which has the given number, behind the fault lines that were read before
unfoldable pub read_from : Plan → ℕ → ℕ → List FaultLine → List (List ℕ) → Read
read_from p nodes number kept [] = Ok kept
read_from p nodes number kept (line ∷ more) = then (added p nodes number line kept) (λ new. read_from p nodes (number + 1) new more)

-- ---- it is what the definition says

abbrev one : ℕ → Fault → List FaultLine
one number fault = record { line = number; fault = fault } ∷ []

fault_step : (number : ℕ) (kept : List FaultLine) (few : Bool) (r : Result Fault LineFault) (faulty : List ScriptFault) (others : List FaultLine) (next : List FaultLine → Read) →
    ((fault : Fault) → unless faulty ((kept ++ one number fault) ++ others) ≡ next (kept ++ one number fault)) →
    unless (cons_option (cond few (wrong_by number r) (Some (faults.Lines number))) faulty) (kept ++ cons_option (line_by number r) others)
    ≡ then (cond few (added_by number kept r) (Err (faults.Lines number))) next
fault_step number kept true (Ok fault) faulty others next h = ap (unless faulty) (sym (append_assoc kept (one number fault) others)) ∙ h fault
fault_step number kept true (Err f) faulty others next h = refl
fault_step number kept false r faulty others next h = refl

module _ (p : Plan) (nodes : ℕ) where
  -- the fault lines among these lines, the first of which has the given number
  abbrev fault_lines_from : ℕ → List (List ℕ) → List (ℕ × List ℕ)
  fault_lines_from number ls = filter (λ (l : ℕ × List ℕ). is_fault_line l.1) (enumerate_from number ls)

  abbrev rest_of : List FaultLine → List (ℕ × List ℕ) → Read
  rest_of kept ls = unless (filter_map (wrong p nodes) (enumerate_from (length kept) ls)) (kept ++ filter_map (line_of p nodes) ls)

  one_more : (number : ℕ) (kept : List FaultLine) (fault : Fault) (ls : List (ℕ × List ℕ)) →
      rest_of (kept ++ one number fault) ls ≡ unless (filter_map (wrong p nodes) (enumerate_from (length kept + 1) ls)) ((kept ++ one number fault) ++ filter_map (line_of p nodes) ls)
  one_more number kept fault ls =
      ap (λ n. unless (filter_map (wrong p nodes) (enumerate_from n ls)) ((kept ++ one number fault) ++ filter_map (line_of p nodes) ls)) (length-append kept (one number fault))

  line_by_line : (number : ℕ) (kept : List FaultLine) (line : List ℕ) (more : List (List ℕ)) (t : Bool) →
      ((new : List FaultLine) → rest_of new (fault_lines_from (number + 1) more) ≡ read_from p nodes (number + 1) new more) →
      rest_of kept (cond t ((number, line) ∷ fault_lines_from (number + 1) more) (fault_lines_from (number + 1) more))
      ≡ then (cond t (cond (nat_lt (length kept) 64) (added_by number kept (fault_in p nodes line)) (Err (faults.Lines number))) (Ok kept)) (λ new. read_from p nodes (number + 1) new more)
  line_by_line number kept line more true h =
      fault_step number kept (nat_lt (length kept) 64) (fault_in p nodes line) (filter_map (wrong p nodes) (enumerate_from (length kept + 1) (fault_lines_from (number + 1) more)))
      (filter_map (line_of p nodes) (fault_lines_from (number + 1) more)) (λ new. read_from p nodes (number + 1) new more)
      (λ fault. sym (one_more number kept fault (fault_lines_from (number + 1) more)) ∙ h (kept ++ one number fault))
  line_by_line number kept line more false h = h kept

  same_rest : (number : ℕ) (kept : List FaultLine) (ls : List (List ℕ)) → rest_of kept (fault_lines_from number ls) ≡ read_from p nodes number kept ls
  unfolding read_from
  same_rest number kept [] = ap (λ l. Ok l) (append-nil kept)
  same_rest number kept (line ∷ more) = line_by_line number kept line more (is_fault_line line) (λ new. same_rest (number + 1) new more)

  pub read_whole : (text : List ℕ) → read_from p nodes 1 [] (lines text) ≡ script_of p nodes text
  unfolding script_of all_wrong lines_of fault_lines
  read_whole text = sym (same_rest 1 [] (lines text))

  -- ---- one line after another

  pub read_next : (number : ℕ) (old new : List FaultLine) (line : List ℕ) (before after : List (List ℕ)) (whole : Read) → before ≡ line ∷ after → added p nodes number line old ≡ Ok new →
      read_from p nodes number old before ≡ whole → read_from p nodes (number + 1) new after ≡ whole
  unfolding read_from
  read_next number old new line before after whole e is told =
      sym (ap (λ r. then r (λ l. read_from p nodes (number + 1) l after)) is) ∙ ap (read_from p nodes number old) (sym e) ∙ told

  pub read_end : (number : ℕ) (old : List FaultLine) (before : List (List ℕ)) (whole : Read) → before ≡ [] → read_from p nodes number old before ≡ whole → whole ≡ Ok old
  unfolding read_from
  read_end number old before whole e told = sym told ∙ ap (read_from p nodes number old) e

  stopped : (number : ℕ) (old : List FaultLine) (line : List ℕ) (before after : List (List ℕ)) (whole : Read) (fault : ScriptFault) → before ≡ line ∷ after → added p nodes number line old ≡ Err fault →
      read_from p nodes number old before ≡ whole → whole ≡ Err fault
  unfolding read_from
  stopped number old line before after whole fault e is told =
      sym told ∙ ap (read_from p nodes number old) e ∙ ap (λ r. then r (λ l. read_from p nodes (number + 1) l after)) is

  pub read_fault : (number : ℕ) (old new : List FaultLine) (line : List ℕ) (before after : List (List ℕ)) (whole : Read) (fault : ScriptFault) → before ≡ line ∷ after →
      Adds (added p nodes number line old) (Err fault) new → read_from p nodes number old before ≡ whole → Reads whole (Err fault)
  read_fault number old new line before after whole faults.Memory e is told = tt
  read_fault number old new line before after whole (faults.Lines n) e is told = stopped number old line before after whole (faults.Lines n) e is told
  read_fault number old new line before after whole (faults.Form n) e is told = stopped number old line before after whole (faults.Form n) e is told
  read_fault number old new line before after whole (faults.NoSuch n) e is told = stopped number old line before after whole (faults.NoSuch n) e is told
  read_fault number old new line before after whole (faults.Range n) e is told = stopped number old line before after whole (faults.Range n) e is told
