use Rattle.std.proofs.Common.{◌≡◌, drop}
use Rattle.job_rules.specs.Bounds.{state_bound}
use Rattle.job_rules.specs.Faults.{first_of}
use Rattle.chare_checker.proofs.bounds.states_bounds.Given as goal

abbrev pub invariant-loop-state : goal.invariant-loop-state
invariant-loop-state l = first_of state_bound l.found (drop l.state-index l.states) ≡ first_of state_bound l.fn.found l.states
