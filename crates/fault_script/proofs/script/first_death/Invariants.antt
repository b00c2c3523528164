use Rattle.std.proofs.Common.{◌≡◌, drop}
use Rattle.fault_script.specs.Lines.{faults_of}
use Rattle.fault_script.specs.Strikes.{first_place, kills}
use Rattle.fault_script.proofs.script.first_death.Given as goal

-- the first death is among the lines that are left
abbrev pub invariant-loop-i : goal.invariant-loop-i
invariant-loop-i l = first_place (kills l.slot l.at) l.i (faults_of (drop l.i l.lines)) l.left ≡ first_place (kills l.slot l.at) 0 (faults_of l.lines) l.set
