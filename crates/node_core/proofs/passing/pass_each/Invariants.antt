use Rattle.std.proofs.Common.{◌≡◌, drop}
use Rattle.node_core.specs.Nodes.{passed}
use Rattle.node_core.proofs.passing.pass_each.Given as goal

abbrev pub invariant-loop-message : goal.invariant-loop-message
invariant-loop-message g l =
    passed l.context.plan.now (g.M.Placement.place l.context.map.now) l.roster l.sender (drop l.message-index l.sent) (record { gatherings = l.gatherings.items; out = l.out }) ≡
    passed l.context.plan.now (g.M.Placement.place l.context.map.now) l.roster l.sender l.sent (record { gatherings = l.fn.gatherings.items; out = l.fn.out })
