use Rattle.std.proofs.Common.{◌≡◌, drop}
use Rattle.run_report.specs.Answers.{state_with}
use Rattle.run_report.proofs.answers.state_with.Given as goal

-- it is among those that are left
abbrev pub invariant-loop-state : goal.invariant-loop-state
invariant-loop-state l = state_with l.cell (drop l.state-index l.states) ≡ state_with l.cell l.states
