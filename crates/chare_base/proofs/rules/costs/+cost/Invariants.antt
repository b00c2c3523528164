use Rattle.std.proofs.Common.{◌≡◌, drop, map}
use Rattle.chare_base.specs.Costs.{stmt_cost, sum_from}
use Rattle.chare_base.proofs.rules.costs.+cost.Given as goal

abbrev pub invariant-block_cost-loop-stmt : goal.invariant-block_cost-loop-stmt
invariant-block_cost-loop-stmt l = sum_from l.cost (map stmt_cost (drop l.stmt-index l.block)) ≡ sum_from l.total (map stmt_cost l.block)
