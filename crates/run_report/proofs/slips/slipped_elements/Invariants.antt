use Rattle.std.proofs.Common.{◌≡◌, ◌++◌, drop}
use Rattle.run_report.specs.Slips.{slipped_from}
use Rattle.run_report.proofs.slips.slipped_elements.Given as goal

-- those of the elements that are left go behind those that were found
abbrev pub invariant-loop-e : goal.invariant-loop-e
invariant-loop-e l = l.slipped.items ++ slipped_from l.e (drop l.e l.all) ≡ slipped_from 0 l.all
