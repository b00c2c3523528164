use Rattle.std.proofs.Common.{◌≡◌, ◌++◌, drop, take, length}
use Rattle.std.specs.Prelude.{map}
use Rattle.node_core.specs.Nodes.{taken_in}
use Rattle.node_core.proofs.live.take_total.Given as goal

abbrev pub invariant-loop-i : goal.invariant-loop-i
invariant-loop-i l = record {
  told : take l.i l.objects.items ++ map (taken_in l.plan l.array l.key l.payload) (drop l.i l.objects.items) ≡ map (taken_in l.plan l.array l.key l.payload) l.fn.objects.items;
  count : length l.objects.items ≡ length l.fn.objects.items;
}
