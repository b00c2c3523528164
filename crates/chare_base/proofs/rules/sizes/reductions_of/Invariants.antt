use Rattle.std.proofs.Common.{◌≡◌, ◌+◌, ◌≤◌, drop}
use Rattle.chare_base.specs.Limits.{reductions_of}
use Rattle.chare_base.proofs.rules.sizes.reductions_of.Given as goal

abbrev pub invariant-loop-reduction : goal.invariant-loop-reduction
invariant-loop-reduction l = record {
  told : l.count + reductions_of l.array (drop l.reduction-index l.reductions) ≡ reductions_of l.array l.reductions;
  bound : l.count ≤ l.reduction-index;
}
