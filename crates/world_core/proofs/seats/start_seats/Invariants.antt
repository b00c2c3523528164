use Rattle.std.proofs.Common.{◌≡◌, ◌++◌, drop, map}
use Rattle.node_core.specs.Nodes.{objects_of}
use Rattle.world_core.specs.Worlds.{readiness, seats_of}
use Rattle.world_core.proofs.seats.start_seats.Given as goal

abbrev pub invariant-loop-seat : goal.invariant-loop-seat
invariant-loop-seat l = l.seats ++ map (readiness l.fn.plan l.fn.top) (drop l.seat (objects_of l.fn.node.body)) ≡ seats_of l.fn.plan l.fn.top l.fn.node
