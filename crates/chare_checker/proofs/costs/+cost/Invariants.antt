use Rattle.std.proofs.Common.{◌≡◌, drop, map}
use Rattle.chare_base.specs.Costs.{sum_from}
use Rattle.job_rules.specs.Costs.{block_costs, stmt_cost}
use Rattle.chare_checker.proofs.costs.+cost.Given as goal

abbrev pub invariant-block_cost-loop-stmt : goal.invariant-block_cost-loop-stmt
invariant-block_cost-loop-stmt l = sum_from l.cost (map stmt_cost (drop l.stmt-index l.stmt-items)) ≡ sum_from l.total (block_costs l.block)
