use Rattle.std.proofs.Common.{◌≡◌, ◌++◌, drop}
use Rattle.std.specs.Prelude.{map}
use Rattle.node_core.specs.Nodes.{total_to}
use Rattle.node_core.proofs.passing.send_each.Given as goal

abbrev pub invariant-loop-node : goal.invariant-loop-node
invariant-loop-node l =
    l.out ++ map (total_to l.replica l.stamp l.reduction l.iteration l.value) (drop l.node-index l.nodes) ≡ l.fn.out ++ map (total_to l.replica l.stamp l.reduction l.iteration l.value) l.nodes
