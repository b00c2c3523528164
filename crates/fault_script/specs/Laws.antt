-- What holds of each script of a text.
use Rattle.std.specs.Prelude.{◌≡◌, ℕ, ◌+◌, ◌^◌, ◌<◌, ◌≤◌, List, [], ◌∷◌, length, slice_get, Some, Ok}
use Rattle.std.specs.List.{AllByRecursion}
use Rattle.std.specs.Str.Lines.{lines}
use Rattle.chare_base.specs.declared.plan.Plan.{Plan}
use Rattle.chare_base.specs.Elements.{cells_of, elements}
use Rattle.fault_script.specs.declared.fault.Fault.{Fault}
use Rattle.fault_script.specs.declared.fault.Fault.TheVariants as faults
use Rattle.fault_script.specs.declared.fault.FaultLine.{FaultLine}
use Rattle.fault_script.specs.Meaning.{fault_in}
use Rattle.fault_script.specs.Reading.{IsScript}

-- A flip names a replica, an element, a cell of it and an iteration that there are, and changes a bit. A crash names a slot and an
-- iteration that there are.
abbrev pub Fits : Plan → ℕ → Fault → Type 0
Fits p nodes (faults.Flip replica element cell mask at) =
    (replica < 2) × (element.0 < elements p) × (cell < cells_of p element.0) × (0 < mask) × (mask < 2 ^ 64) × (at < p.iterations)
Fits p nodes (faults.Crash slot at) = (slot.replica < 2) × (slot.node < nodes) × (at < p.iterations)

-- the numbers of these lines ascend, and are above this one
abbrev pub Ascend : ℕ → List FaultLine → Type 0
Ascend last [] = Unit {0}
Ascend last (l ∷ more) = (last < l.line) × Ascend l.line more

-- a line of the text, by its number from 1, spells this fault
pub record IsLine (p : Plan) (nodes : ℕ) (text : List ℕ) (l : FaultLine) : Type 0 where
  pub before : ℕ
  pub number : l.line ≡ before + 1
  pub line : List ℕ
  pub is : slice_get (lines text) before ≡ Some line
  pub spelled : fault_in p nodes line ≡ Ok l.fault

-- A script has 64 lines at most. Each is a line of the text, with its number, and they stand in the text's order.
pub record Follows (p : Plan) (nodes : ℕ) (text : List ℕ) (script : List FaultLine) : Type 0 where
  pub few : length script ≤ 64
  pub ascend : Ascend 0 script
  pub lines : AllByRecursion (IsLine p nodes text) script

abbrev pub ScriptsFollow : Type 0
ScriptsFollow = (p : Plan) (nodes : ℕ) (text : List ℕ) (script : List FaultLine) → IsScript p nodes text script → Follows p nodes text script

-- Each fault of a script is one that there can be.
abbrev pub ScriptsFit : Type 0
ScriptsFit = (p : Plan) (nodes : ℕ) (text : List ℕ) (script : List FaultLine) → IsScript p nodes text script → AllByRecursion (λ l. Fits p nodes l.fault) script
