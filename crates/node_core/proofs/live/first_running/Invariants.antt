use Rattle.std.proofs.Common.{◌≡◌, drop}
use Rattle.std.specs.List.{AllByRecursion}
use Rattle.object_steps.specs.Objects.{Fits}
use Rattle.node_core.specs.Nodes.{first_running_of}
use Rattle.node_core.proofs.live.first_running.Given as goal

abbrev pub invariant-loop-object : goal.invariant-loop-object
invariant-loop-object l = record {
  told : first_running_of l.plan l.limit (drop l.object-index l.objects) ≡ first_running_of l.plan l.limit l.objects;
  rest : AllByRecursion (Fits l.plan) (drop l.object-index l.objects);
}
