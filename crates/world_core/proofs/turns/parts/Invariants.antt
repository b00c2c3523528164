use Rattle.std.proofs.Common.{◌≡◌, ◌≤◌, ◌*◌}
use Rattle.world_core.specs.Bounds.{parts_below}
use Rattle.world_core.proofs.turns.parts.Given as goal

abbrev pub invariant-loop-step : goal.invariant-loop-step
invariant-loop-step l = record {
  sum : l.sum ≡ parts_below l.plan l.e.0 l.step;
  few : l.sum ≤ 8 * l.step;
}
