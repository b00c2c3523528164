use Rattle.std.proofs.Common.{ℕ, List, length, arith, ap, ◌∙◌, ◌≡◌}
use Rattle.node_core.specs.Rosters.{nodes_with}
use Rattle.node_core.proofs.Seats.{few_with}
use Rattle.node_core.proofs.roster.array_sharers.Goals as goal

pub returns-clause-few : goal.returns-clause-few
returns-clause-few g c =
    let place : List ℕ = g.M.Placement.place c.args.map.now in
    let few = few_with c.args.plan.now place c.args.array c.loop-node.node in
    let same : length c.from_vec.result ≡ length (nodes_with c.args.plan.now place c.args.array c.loop-node.node) = ap length (c.from_vec.ensures ∙ c.loop-node.invariant) in
    omega (arith, few, same)
