use Rattle.std.proofs.Common.{◌≡◌}
use Rattle.world_core.specs.Bounds.{capped, width_below}
use Rattle.world_core.proofs.turns.widths.Given as goal

abbrev pub invariant-loop-e : goal.invariant-loop-e
invariant-loop-e l = l.sum ≡ capped (width_below l.plan l.e)
