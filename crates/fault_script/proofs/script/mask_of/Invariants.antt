use Rattle.std.proofs.Common.{◌≡◌, drop}
use Rattle.std.specs.Prelude.{bit_xor, fold, map}
use Rattle.fault_script.specs.Lines.{faults_of, selection}
use Rattle.fault_script.specs.Strikes.{mask_by, mask_of}
use Rattle.fault_script.proofs.script.mask_of.Given as goal

-- the lines that are left take the mask so far to the whole
abbrev pub invariant-loop-line : goal.invariant-loop-line
invariant-loop-line l =
    fold bit_xor l.mask (map (mask_by l.replica l.e.0 l.cell l.at) (selection (faults_of (drop l.line-index l.lines)) l.left))
    ≡ mask_of l.replica l.e.0 l.cell l.at (faults_of l.lines) l.set
