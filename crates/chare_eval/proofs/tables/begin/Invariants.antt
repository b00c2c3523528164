use Rattle.std.proofs.Common.{◌≡◌, ◌++◌, drop, map}
use Rattle.chare_eval.specs.Tables.{no_value}
use Rattle.chare_eval.proofs.tables.begin.Given as goal

abbrev pub invariant-loop-reduction : goal.invariant-loop-reduction
invariant-loop-reduction l = l.tallies.items ++ map (no_value l.arrays) (drop l.reduction-index l.reductions) ≡ map (no_value l.arrays) l.reductions
