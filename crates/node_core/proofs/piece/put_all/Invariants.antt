use Rattle.std.proofs.Common.{◌≡◌, ◌++◌, drop}
use Rattle.std.specs.List.{AllByRecursion}
use Rattle.object_steps.specs.Objects.{Fits}
use Rattle.node_core.specs.Nodes.{objects_records}
use Rattle.node_core.proofs.piece.put_all.Given as goal

abbrev pub invariant-loop-object : goal.invariant-loop-object
invariant-loop-object l = record {
  told : l.out ++ objects_records l.plan l.k (drop l.object-index l.objects) ≡ l.fn.out ++ objects_records l.plan l.k l.objects;
  rest : AllByRecursion (Fits l.plan) (drop l.object-index l.objects);
}
