use Rattle.std.proofs.Common.{◌≡◌, ◌-◌}
use Rattle.run_ledger.specs.Conditions.{bare_from}
use Rattle.run_ledger.proofs.conditions.bare_node.Given as goal

-- it is among the nodes that are left
abbrev pub invariant-loop-node : goal.invariant-loop-node
invariant-loop-node l = bare_from l.first l.second l.node (l.nodes - l.node) ≡ bare_from l.first l.second 0 l.nodes
