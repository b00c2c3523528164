use Rattle.std.proofs.Common.{◌≡◌, ◌++◌, drop}
use Rattle.job_rules.specs.PlannedArrays.{states_planned}
use Rattle.chare_checker.proofs.planning.arrays.plan_states.Given as goal

abbrev pub invariant-loop-state : goal.invariant-loop-state
invariant-loop-state l = l.planned ++ states_planned l.text l.table l.at (drop l.state-index l.states) ≡ states_planned l.text l.table 0 l.states
