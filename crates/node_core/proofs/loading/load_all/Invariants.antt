use Rattle.std.proofs.Common.{◌≡◌, ◌<◌, length, drop}
use Rattle.std.specs.List.{AllByRecursion}
use Rattle.object_steps.specs.Objects.{Fits}
use Rattle.node_core.specs.Loads.{loaded}
use Rattle.node_core.proofs.Loaded.{before}
use Rattle.node_core.proofs.loading.load_all.Given as goal

abbrev pub invariant-loop-member : goal.invariant-loop-member
invariant-loop-member l = record {
  told : before l.all.items (loaded l.plan (drop l.member-index l.members) l.k l.rest) ≡ loaded l.plan l.fn.members l.k l.fn.bytes;
  few : length l.rest < 4294967295;
  fits : AllByRecursion (Fits l.plan) l.all.items;
}
