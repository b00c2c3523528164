use Rattle.std.proofs.Common.{◌≡◌, ◌+◌, ◌≤◌, drop}
use Rattle.std.specs.Prelude.{min}
use Rattle.chare_base.specs.Ports.{steps_take}
use Rattle.chare_base.specs.PortKeys.{port_of}
use Rattle.chare_base.proofs.rules.ports.steps_take.Given as goal

abbrev pub invariant-loop-step : goal.invariant-loop-step
invariant-loop-step l = record {
  told : min 2 (l.count + steps_take (port_of l.port) (drop l.step-index l.steps)) ≡ min 2 (steps_take (port_of l.port) l.steps);
  few : l.count ≤ 2;
}
