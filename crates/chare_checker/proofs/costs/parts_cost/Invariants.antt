use Rattle.std.proofs.Common.{◌≡◌, drop}
use Rattle.job_rules.specs.Costs.{parts_cost}
use Rattle.chare_checker.proofs.costs.parts_cost.Given as goal

abbrev pub invariant-loop-part : goal.invariant-loop-part
invariant-loop-part l = parts_cost l.total (drop l.part-index l.parts) ≡ parts_cost 0 l.parts
