use Rattle.std.proofs.Common.{◌≡◌, ◌+◌, ◌≤◌, drop}
use Rattle.std.specs.Prelude.{min}
use Rattle.chare_base.specs.Ports.{block_sends}
use Rattle.chare_base.specs.PortKeys.{port_of}
use Rattle.chare_base.proofs.rules.ports.block_sends.Given as goal

abbrev pub invariant-loop-stmt : goal.invariant-loop-stmt
invariant-loop-stmt l = record {
  told : min 2 (l.count + block_sends (port_of l.port) (drop l.stmt-index l.block)) ≡ min 2 (block_sends (port_of l.port) l.block);
  few : l.count ≤ 2;
}
