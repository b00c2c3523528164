use Rattle.std.proofs.Common.{◌≡◌, length}
use Rattle.chare_base.specs.Names.{distinct_reductions}
use Rattle.chare_base.proofs.rules.names.distinct_reductions.Given as goal

abbrev pub invariant-reductions : goal.invariant-reductions
invariant-reductions l = distinct_reductions l.rest ≡ distinct_reductions l.reductions

abbrev pub decreases-reductions : goal.decreases-reductions
decreases-reductions l = length l.rest
