use Rattle.std.proofs.Common.{◌<◌, ◌∙◌, ap, arith}
use Rattle.conductor_core.specs.Openings.{all_lines}
use Rattle.world_core.proofs.Opening.{opened_nodes}
use Rattle.world_core.specs.Worlds.{Setting}
use Rattle.world_core.proofs.Opening.{next_slot}
use Rattle.world_core.proofs.posts.start_slots.Goals as goal

pub loop-node-preserved : goal.loop-node-preserved
loop-node-preserved g c =
    let s : Setting = c.args.setting.now in
    next_slot s c.args.replica c.loop-node.node c.all_lines-live.result c.args.cut.now c.args.slots.now.items c.loop-node.slots.items c.in_ok-start.field-0 c.push.new.self.items
    (c.all_lines-live.ensures ∙ ap (λ (t : Setting). all_lines t.script) c.setting.view_is) c.requires.cut c.loop-node.invariant c.in_ok-start.ensures c.in_ok-push.ensures.items

pub start-requires : goal.start-requires
start-requires g c =
    let all = opened_nodes c.args.setting.now.nodes c.args.cut.now c.requires.cut in
    let within : c.loop-node.node < c.args.cut.now.nodes = omega (arith, c.loop-node-test.true, c.nodes-node-end.ensures, all) in
    record { slot = (c.requires.replica, within) }
