use Rattle.std.proofs.Common.{◌≡◌, ◌++◌, drop}
use Rattle.run_report.specs.Slips.{slip_lines}
use Rattle.run_report.proofs.slips.put_slip_lines.Given as goal

-- the lines of the elements that are left go behind those that were put
abbrev pub invariant-loop-one : goal.invariant-loop-one
invariant-loop-one l = l.out ++ slip_lines l.plan (drop l.one-index l.slipped) ≡ l.fn.out ++ slip_lines l.plan l.slipped
