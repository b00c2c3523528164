use Rattle.std.proofs.Common.{◌+◌, ◌∙◌, refl, sym}
use Rattle.world_core.specs.declared.doing.Readiness.TheVariants.{Behind}
use Rattle.world_core.proofs.Prefixes.{next_none, found_at}
use Rattle.world_core.proofs.seats.next_able.Goals as goal

pub returns-then-is_able-clause-found : goal.returns-then-is_able-clause-found
returns-then-is_able-clause-found c =
    sym (found_at c.args.states.now c.loop-seat.seat Behind c.loop-seat.invariant c.loop-seat-test.true (sym c.is_able.ensures ∙ c.if-is_able.true))

pub loop-seat-preserved : goal.loop-seat-preserved
loop-seat-preserved c =
    next_none c.args.states.now c.loop-seat.seat (c.loop-seat.seat + 1) Behind refl c.loop-seat.invariant c.loop-seat-test.true (sym c.is_able.ensures ∙ c.if-is_able.false)
