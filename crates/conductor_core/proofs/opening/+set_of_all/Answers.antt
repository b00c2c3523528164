use Rattle.std.proofs.Common.{rules, length, ◌+◌, ◌*◌}
use Rattle.conductor_core.proofs.Bits.{few_next}
use Rattle.conductor_core.proofs.opening.+set_of_all.Goals as goal

pub returns-in-Some-clause-small : goal.returns-in-Some-clause-small
returns-in-Some-clause-small t c =
    λ n h. few_next (length c.args.lines.now) (length c.in-Some.more.now) n c.set_of_all.result (1 + 2 * c.set_of_all.result) (search rules) h c.set_of_all.ensures.small (search rules)
