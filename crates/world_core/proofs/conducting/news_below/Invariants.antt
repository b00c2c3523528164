use Rattle.std.proofs.Common.{◌≡◌}
use Rattle.world_core.specs.Worlds.{news_below}
use Rattle.world_core.proofs.conducting.news_below.Given as goal

abbrev pub invariant-loop-node : goal.invariant-loop-node
invariant-loop-node l = l.news ≡ news_below l.cut l.conductor l.replica l.node
