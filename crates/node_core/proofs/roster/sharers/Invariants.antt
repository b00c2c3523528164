use Rattle.std.proofs.Common.{◌≡◌}
use Rattle.node_core.specs.Rosters.{FewNodes, sharers_to}
use Rattle.node_core.proofs.roster.sharers.Given as goal

abbrev pub invariant-loop-array : goal.invariant-loop-array
invariant-loop-array g l = record {
  told : l.all.items ≡ sharers_to l.plan (g.M.Placement.place l.map) l.nodes l.array;
  few : FewNodes l.all.items;
}
