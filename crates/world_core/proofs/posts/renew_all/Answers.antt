use Rattle.std.proofs.Common.{◌≤◌, ◌<◌, ◌+◌, length, refl, arith}
use Rattle.world_core.specs.Steps.{Renews}
use Rattle.world_core.specs.Worlds.{SlotState, again}
use Rattle.world_core.proofs.Renewing.{next_has, next_is, to_the_end}
use Rattle.world_core.proofs.posts.renew_all.Goals as goal

pub loop-i-init : goal.loop-i-init
loop-i-init c = refl

pub renew-requires : goal.renew-requires
renew-requires c =
    let made : SlotState → SlotState = again c.args.plan.now c.args.cut.now in
    let within : c.loop-i.i < length c.args.slots.now.items = omega (arith, c.loop-i-test.true, c.len-i-end.ensures) in
    next_has (Renews c.args.plan.now c.args.cut.now) made c.loop-i.i c.args.slots.now.items c.loop-i.slots.items c.index_mut.result.now c.requires within c.loop-i.invariant c.index_mut.ensures.value

pub loop-i-preserved : goal.loop-i-preserved
loop-i-preserved c =
    let made : SlotState → SlotState = again c.args.plan.now c.args.cut.now in
    let within : c.loop-i.i < length c.args.slots.now.items = omega (arith, c.loop-i-test.true, c.len-i-end.ensures) in
    next_is made c.loop-i.i (c.loop-i.i + 1) c.args.slots.now.items c.loop-i.slots.items _ c.index_mut.result.now c.renew.new.self refl within c.loop-i.invariant c.index_mut.ensures.value c.in_ok-renew.ensures refl

pub returns : goal.returns
returns c =
    let made : SlotState → SlotState = again c.args.plan.now c.args.cut.now in
    let end : length c.args.slots.now.items ≤ c.loop-i.i = omega (arith, c.loop-i-test.false, c.len-i-end.ensures) in
    to_the_end made c.loop-i.i c.args.slots.now.items c.loop-i.slots.items end c.loop-i.invariant
