use Rattle.std.proofs.Common.{length}
use Rattle.node_core.proofs.node.+replica_flips.Given as goal

abbrev pub decreases-replica_flips : goal.decreases-replica_flips
decreases-replica_flips l = length l.lines.now
