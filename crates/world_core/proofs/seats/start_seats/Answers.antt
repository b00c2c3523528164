use Rattle.std.proofs.Common.{◌<◌, arith, length}
use Rattle.node_core.specs.Nodes.{objects_of}
use Rattle.world_core.proofs.Seating.{next_seat}
use Rattle.world_core.proofs.seats.start_seats.Goals as goal

pub loop-seat-preserved : goal.loop-seat-preserved
loop-seat-preserved c =
    let there : c.loop-seat.seat < length (objects_of c.args.node.now.body) = omega (arith, c.loop-seat-test.true, c.count-seat-end.ensures) in
    next_seat c.args.plan.now c.args.top c.args.node.now c.loop-seat.seats c.push.new.self c.loop-seat.seat c.readiness_at.result there c.loop-seat.invariant c.readiness_at.ensures c.in_ok-push.ensures
