use Rattle.std.proofs.Common.{◌≡◌, ◌++◌, drop}
use Rattle.std.specs.List.{AllByRecursion}
use Rattle.chare_base.specs.Placing.{members, members_from}
use Rattle.object_steps.specs.Objects.{Fits}
use Rattle.node_core.specs.Starts.{starts}
use Rattle.node_core.proofs.node.start_objects.Given as goal

abbrev pub invariant-loop-e : goal.invariant-loop-e
invariant-loop-e g l = record {
  told : l.all.items ++ starts l.plan (members_from l.e (drop l.e (g.M.Placement.place l.map)) l.node) ≡ starts l.plan (members (g.M.Placement.place l.map) l.node);
  fits : AllByRecursion (Fits l.plan) l.all.items;
}
