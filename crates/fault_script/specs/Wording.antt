-- How a fault of a script is told: its line and a word.
use Rattle.std.specs.Prelude.{ℕ, List, [], codes}
use Rattle.fault_script.specs.declared.reading.ScriptFault.{ScriptFault}
use Rattle.fault_script.specs.declared.reading.ScriptFault.TheVariants as faults

-- the number of the line, 0 where memory ran out
abbrev pub line_told : ScriptFault → ℕ
line_told (faults.Lines line) = line
line_told (faults.Form line) = line
line_told (faults.NoSuch line) = line
line_told (faults.Range line) = line
line_told faults.Memory = 0

-- the word, none where memory ran out
abbrev pub word_told : ScriptFault → List ℕ
word_told (faults.Lines line) = codes "lines"
word_told (faults.Form line) = codes "form"
word_told (faults.NoSuch line) = codes "no-such"
word_told (faults.Range line) = codes "range"
word_told faults.Memory = []
