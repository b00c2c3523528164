use Rattle.std.proofs.Common.{◌≡◌, take, None}
use Rattle.world_core.specs.Steps.{first_able}
use Rattle.world_core.proofs.seats.next_able.Given as goal

abbrev pub invariant-loop-seat : goal.invariant-loop-seat
invariant-loop-seat l = first_able 0 (take l.seat l.states) ≡ None
