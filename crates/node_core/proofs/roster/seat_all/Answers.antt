use Rattle.std.proofs.Common.{◌+◌, ℕ, List, refl, arith}
use Rattle.std.specs.Prelude.{◌==◌}
use Rattle.node_core.proofs.Seats.{seat_few, seat_told}
use Rattle.node_core.proofs.roster.seat_all.Goals as goal

pub loop-e-preserved : goal.loop-e-preserved
loop-e-preserved g c =
    let place : List ℕ = g.M.Placement.place c.args.map.now in
    let here = c.node_of.result == c.args.node in
    record {
      told = seat_told place c.args.node c.loop-e.e (c.loop-e.e + 1) c.node_of.result c.loop-e.next c.after-next.result here c.loop-e.seats.items c.push.new.self.items c.seat_if.result
          (omega arith) c.node_of.ensures.node refl c.seat_if.ensures c.after-next.ensures c.in_ok-push.ensures.items c.loop-e.invariant.told;
      few = seat_few c.loop-e.next c.loop-e.e c.after-next.result here c.after-next.ensures c.loop-e.invariant.few;
    }
