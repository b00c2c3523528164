use Rattle.std.proofs.Common.{◌≡◌, ◌++◌, drop, vec_len}
use Rattle.std.specs.Prelude.{map}
use Rattle.fault_script.specs.Lines.{faults_of}
use Rattle.run_ledger.specs.Lines.{fresh_line}
use Rattle.run_ledger.proofs.ledger.fresh_lines.Given as goal

-- the lines that are left go behind those that were put
abbrev pub invariant-loop-line : goal.invariant-loop-line
invariant-loop-line l =
    (l.lines.items ++ map fresh_line (faults_of (drop l.line-index l.script)) ≡ map fresh_line (faults_of l.script))
    × (vec_len l.lines ≡ l.line-index)
