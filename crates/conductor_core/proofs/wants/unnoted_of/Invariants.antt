use Rattle.std.proofs.Common.{◌≡◌, ◌-◌}
use Rattle.conductor_core.specs.Moves.{unnoted_from}
use Rattle.conductor_core.proofs.wants.unnoted_of.Given as goal

-- it is among the nodes that are left
abbrev pub invariant-loop-node : goal.invariant-loop-node
invariant-loop-node l = unnoted_from l.noted l.nodes l.replica l.node (l.nodes - l.node) ≡ unnoted_from l.noted l.nodes l.replica 0 l.nodes
