use Rattle.std.proofs.Common.{◌≡◌, ◌++◌, drop, map}
use Rattle.job_rules.specs.PlannedSteps.{step_planned}
use Rattle.chare_checker.proofs.planning.steps.plan_steps.Given as goal

abbrev pub invariant-loop-step : goal.invariant-loop-step
invariant-loop-step l = l.planned ++ map (step_planned l.text l.names l.table) (drop l.step-index l.steps) ≡ map (step_planned l.text l.names l.table) l.steps
