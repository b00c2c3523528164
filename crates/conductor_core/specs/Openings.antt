-- The lines of a script at the opening.
use Rattle.std.specs.Prelude.{ℕ, Bool, true, List}
use Rattle.fault_script.specs.declared.fault.Fault.{Fault}
use Rattle.fault_script.specs.Lines.{set_of}

abbrev pub is_any : Fault → Bool
is_any fault = true

abbrev pub all_lines : List Fault → ℕ
all_lines script = set_of is_any script
