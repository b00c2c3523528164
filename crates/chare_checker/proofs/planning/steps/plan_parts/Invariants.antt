use Rattle.std.proofs.Common.{◌≡◌, ◌++◌, drop, map}
use Rattle.job_rules.specs.PlannedSteps.{part_planned}
use Rattle.chare_checker.proofs.planning.steps.plan_parts.Given as goal

abbrev pub invariant-loop-part : goal.invariant-loop-part
invariant-loop-part l = l.planned ++ map (part_planned l.text l.names l.table) (drop l.part-index l.parts) ≡ map (part_planned l.text l.names l.table) l.parts
