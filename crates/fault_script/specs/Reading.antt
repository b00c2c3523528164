-- Which texts are scripts, and the first fault of the others.
use Rattle.std.specs.Prelude.{◌≡◌, ℕ, if◌then◌else◌, nat_lt, List, [], ◌∷◌, Option, Some, None, Result, Ok, Err}
use Rattle.std.specs.List.{enumerate_from, filter_map}
use Rattle.chare_base.specs.declared.plan.Plan.{Plan}
use Rattle.fault_script.specs.declared.fault.Fault.{Fault}
use Rattle.fault_script.specs.declared.fault.FaultLine.{FaultLine}
use Rattle.fault_script.specs.declared.meaning.LineFault.{LineFault}
use Rattle.fault_script.specs.declared.meaning.LineFault.TheVariants as why
use Rattle.fault_script.specs.declared.reading.ScriptFault.{ScriptFault}
use Rattle.fault_script.specs.declared.reading.ScriptFault.TheVariants as faults
use Rattle.fault_script.specs.Meaning.{fault_in}
use Rattle.fault_script.specs.Text.{fault_lines}

-- why a line of this number is no fault
abbrev pub told : ℕ → LineFault → ScriptFault
told number why.Form = faults.Form number
told number why.NoSuch = faults.NoSuch number
told number why.Range = faults.Range number

abbrev pub wrong_by : ℕ → Result Fault LineFault → Option ScriptFault
wrong_by number (Ok fault) = None
wrong_by number (Err f) = Some (told number f)

-- what is wrong with the fault line at a place among the fault lines, from 0: no more than 64 may be there
abbrev pub wrong : Plan → ℕ → ℕ × (ℕ × List ℕ) → Option ScriptFault
wrong p nodes l = if nat_lt l.0 64 then wrong_by l.1.0 (fault_in p nodes l.1.1) else Some (faults.Lines l.1.0)

-- all that is wrong with a text, by line
unfoldable pub all_wrong : Plan → ℕ → List ℕ → List ScriptFault
all_wrong p nodes text = filter_map (wrong p nodes) (enumerate_from 0 (fault_lines text))

abbrev pub line_by : ℕ → Result Fault LineFault → Option FaultLine
line_by number (Ok fault) = Some (record { line = number; fault = fault })
line_by number (Err f) = None

-- the fault line of a line of a text
abbrev pub line_of : Plan → ℕ → ℕ × List ℕ → Option FaultLine
line_of p nodes l = line_by l.0 (fault_in p nodes l.1)

unfoldable pub lines_of : Plan → ℕ → List ℕ → List FaultLine
lines_of p nodes text = filter_map (line_of p nodes) (fault_lines text)

-- these are fault lines where nothing is wrong, else the first of what is
abbrev pub unless : List ScriptFault → List FaultLine → Result (List FaultLine) ScriptFault
unless [] lines = Ok lines
unless (fault ∷ more) lines = Err fault

-- the script of a text, or its first fault
unfoldable pub script_of : Plan → ℕ → List ℕ → Result (List FaultLine) ScriptFault
script_of p nodes text = unless (all_wrong p nodes text) (lines_of p nodes text)

-- what reading answers, unless memory ran out
abbrev pub Reads : Result (List FaultLine) ScriptFault → Result (List FaultLine) ScriptFault → Type 0
Reads due (Err faults.Memory) = Unit {0}
Reads due answer = due ≡ answer

-- a script for a plan and a number of nodes, as this text spells it
abbrev pub IsScript : Plan → ℕ → List ℕ → List FaultLine → Type 0
IsScript p nodes text script = script_of p nodes text ≡ Ok script
