use Rattle.std.proofs.Common.{rules, length}
use Rattle.node_core.proofs.Bits.{few_next}
use Rattle.node_core.proofs.node.+replica_flips.Goals as goal

pub returns-in-Some-clause-small : goal.returns-in-Some-clause-small
returns-in-Some-clause-small t c =
    λ n h. few_next (length c.args.lines.now) (length c.in-Some.more.now) n c.flips_if-on.result c.replica_flips.result c.with_bit.result (search rules) h c.replica_flips.ensures.small c.with_bit.ensures
