use Rattle.std.proofs.Common.{◌≡◌}
use Rattle.node_core.specs.Rosters.{nodes_with}
use Rattle.node_core.proofs.roster.array_sharers.Given as goal

abbrev pub invariant-loop-node : goal.invariant-loop-node
invariant-loop-node g l = l.all.items ≡ nodes_with l.plan (g.M.Placement.place l.map) l.array l.node
