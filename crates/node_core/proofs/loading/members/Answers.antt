use Rattle.std.proofs.Common.{◌+◌, ℕ, List, refl, arith}
use Rattle.std.specs.Prelude.{◌==◌}
use Rattle.node_core.proofs.Loaded.{members_next}
use Rattle.node_core.proofs.loading.members.Goals as goal

pub loop-e-preserved : goal.loop-e-preserved
loop-e-preserved g c =
    let place : List ℕ = g.M.Placement.place c.args.map.now in
    members_next place c.loop-e.e (c.loop-e.e + 1) c.node_of.result c.args.node (c.node_of.result == c.args.node) c.loop-e.all.items c.push_if.new.all.items
    (omega arith) c.node_of.ensures.node refl c.in_ok-push_if.ensures c.loop-e.invariant
