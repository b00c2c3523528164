use Rattle.std.proofs.Common.{◌≡◌, length}
use Rattle.world_core.specs.Worlds.{posted}
use Rattle.world_core.proofs.posts.Posts.deliver.Given as goal

abbrev pub invariant-loop-sent : goal.invariant-loop-sent
invariant-loop-sent l = posted l.nodes l.out l.self ≡ posted l.nodes l.fn.out l.fn.self

abbrev pub decreases-loop-sent : goal.decreases-loop-sent
decreases-loop-sent l = length l.out
