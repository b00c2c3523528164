use Rattle.std.proofs.Common.{◌≡◌, ◌≤◌, ◌+◌, drop}
use Rattle.world_core.specs.Bounds.{reductions_of}
use Rattle.world_core.proofs.turns.reductions_of.Given as goal

abbrev pub invariant-loop-reduction : goal.invariant-loop-reduction
invariant-loop-reduction l = record {
  told : l.count + reductions_of l.array (drop l.reduction-index l.reductions) ≡ reductions_of l.array l.reductions;
  few : l.count ≤ l.reduction-index;
}
