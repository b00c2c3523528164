-- What strikes where.
use Rattle.std.specs.Prelude.{ℕ, suc, ◌/◌, ◌%◌, Bool, false, ◌==◌, ◌&&◌, if◌then◌else◌, bit_xor, fold, List, [], ◌∷◌, map, Option, Some, None}
use Rattle.chare_base.specs.declared.slots.SlotId.{SlotId}
use Rattle.fault_script.specs.declared.fault.Fault.{Fault}
use Rattle.fault_script.specs.declared.fault.Fault.TheVariants as faults
use Rattle.fault_script.specs.Lines.{selection}

-- what a line changes in a cell of an element of a replica as the element begins an iteration: 0 is nothing
abbrev pub mask_by : ℕ → ℕ → ℕ → ℕ → Fault → ℕ
mask_by replica e cell at (faults.Flip r element c mask k) =
    if r == replica && element.0 == e && c == cell && k == at then mask else 0
mask_by replica e cell at (faults.Crash slot k) = 0

-- the masks of the lines of a set there, by exclusive or
abbrev pub mask_of : ℕ → ℕ → ℕ → ℕ → List Fault → ℕ → ℕ
mask_of replica e cell at script set = fold bit_xor 0 (map (mask_by replica e cell at) (selection script set))

-- a line kills a slot as an iteration is about to begin
abbrev pub kills : SlotId → ℕ → Fault → Bool
kills slot at (faults.Flip replica element cell mask k) = false
kills slot at (faults.Crash s k) = s.replica == slot.replica && s.node == slot.node && k == at

-- the place of the first line of a set that passes a test; the first line of the list has the given place
abbrev pub first_place : (Fault → Bool) → ℕ → List Fault → ℕ → Option ℕ
first_place test i [] set = None
first_place test i (f ∷ more) set = if set % 2 == 1 && test f then Some i else first_place test (suc i) more (set / 2)
