-- How reading goes on by one line.
use Rattle.std.specs.Prelude.{◌≡◌, ℕ, if◌then◌else◌, nat_lt, List, [], ◌∷◌, ◌++◌, length, Result, Ok, Err}
use Rattle.chare_base.specs.declared.plan.Plan.{Plan}
use Rattle.fault_script.specs.declared.fault.Fault.{Fault}
use Rattle.fault_script.specs.declared.fault.FaultLine.{FaultLine}
use Rattle.fault_script.specs.declared.meaning.LineFault.{LineFault}
use Rattle.fault_script.specs.declared.reading.ScriptFault.{ScriptFault}
use Rattle.fault_script.specs.declared.reading.ScriptFault.TheVariants as faults
use Rattle.fault_script.specs.Meaning.{fault_in}
use Rattle.fault_script.specs.Reading.{told}
use Rattle.fault_script.specs.Text.{is_fault_line}

abbrev pub added_by : ℕ → List FaultLine → Result Fault LineFault → Result (List FaultLine) ScriptFault
added_by number lines (Ok fault) = Ok (lines ++ (record { line = number; fault = fault } ∷ []))
added_by number lines (Err f) = Err (told number f)

-- the fault lines so far, with what a line of this number adds
abbrev pub added : Plan → ℕ → ℕ → List ℕ → List FaultLine → Result (List FaultLine) ScriptFault
added p nodes number line lines =
    if is_fault_line line then (if nat_lt (length lines) 64 then added_by number lines (fault_in p nodes line) else Err (faults.Lines number)) else Ok lines

-- what is answered, and the lines that are then there, unless memory ran out
abbrev pub Adds : Result (List FaultLine) ScriptFault → Result (Unit {0}) ScriptFault → List FaultLine → Type 0
Adds due (Ok x) lines = due ≡ Ok lines
Adds due (Err faults.Memory) lines = Unit {0}
Adds due (Err fault) lines = due ≡ Err fault
