use Rattle.std.proofs.Common.{◌≡◌, drop, None}
use Rattle.node_core.specs.Nodes.{next_begin_of}
use Rattle.node_core.proofs.live.next_begin.Given as goal

abbrev pub invariant-loop-object : goal.invariant-loop-object
invariant-loop-object l = next_begin_of l.iterations l.least (drop l.object-index l.objects) ≡ next_begin_of l.iterations None l.objects
