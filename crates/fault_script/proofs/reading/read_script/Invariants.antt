use Rattle.std.proofs.Common.{◌≡◌, ◌+◌, ◌≤◌, length}
use Rattle.std.specs.Str.Lines.{lines}
use Rattle.fault_script.specs.Reading.{script_of}
use Rattle.fault_script.proofs.Continuing.{read_from}
use Rattle.fault_script.proofs.reading.read_script.Given as goal

abbrev pub invariant-lines : goal.invariant-lines
invariant-lines l = record {
  told : read_from l.plan l.nodes l.number l.lines.items (lines l.rest) ≡ script_of l.plan l.nodes l.bytes;
  few : length l.lines.items ≤ 64;
  numbered : l.number + length l.rest ≤ 4294967295;
}

abbrev pub decreases-lines : goal.decreases-lines
decreases-lines l = length l.rest
