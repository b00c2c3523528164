use Rattle.std.proofs.Common.{◌≡◌, ◌+◌, ◌≤◌, drop}
use Rattle.std.specs.Prelude.{min}
use Rattle.chare_base.specs.Ports.{parts_take}
use Rattle.chare_base.specs.PortKeys.{port_of}
use Rattle.chare_base.proofs.rules.ports.parts_take.Given as goal

abbrev pub invariant-loop-part : goal.invariant-loop-part
invariant-loop-part l = record {
  told : min 2 (l.count + parts_take (port_of l.port) (drop l.part-index l.parts)) ≡ min 2 (parts_take (port_of l.port) l.parts);
  few : l.count ≤ 2;
}
