use Rattle.std.proofs.Common.{◌≡◌, ℕ, ◌<◌, ◌*◌, ◌/◌, arith, rules, sym, subst}
use Rattle.chare_base.proofs.Blocks.{block_within}
use Rattle.chare_base.proofs.placement.block.Goals as goal

pub overflow_cast-result : goal.overflow_cast-result
overflow_cast-result c =
    let w : (c.args.e * c.args.nodes) / c.args.elements < c.args.nodes = block_within c.args.e c.args.nodes c.args.elements c.requires.there c.requires.some in
    let same : c.from.result * c.from-2.result / c.from-3.result < c.args.nodes = rw (c.from.ensures, c.from-2.ensures, c.from-3.ensures) w in
    omega (arith, same, c.ranges.nodes.fits)

pub returns-clause-within : goal.returns-clause-within
returns-clause-within c = rw (c.from.ensures, c.from-2.ensures, c.from-3.ensures) (block_within c.args.e c.args.nodes c.args.elements c.requires.there c.requires.some)
