use Rattle.std.proofs.Common.{◌≡◌, ℕ, ◌<◌, ◌≤◌, ◌*◌, ◌/◌, length, Some, arith, ap, sym, ◌∙◌, rules}
use Rattle.chare_base.specs.Placing.{block_nodes}
use Rattle.chare_base.proofs.Blocks.{block_at, nodes_count}
use Rattle.chare_base.proofs.placement.BlockMapPlacement.node_of.Goals as goal

pub block-requires-clause-there : goal.block-requires-clause-there
block-requires-clause-there c = omega (arith, c.requires, nodes_count (λ e. (e * c.args.self.now.nodes) / c.args.self.now.elements) 0 c.args.self.now.elements)

pub returns-clause-node : goal.returns-clause-node
returns-clause-node c =
    let there : c.args.e.0 < c.args.self.now.elements = omega (arith, c.requires, nodes_count (λ e. (e * c.args.self.now.nodes) / c.args.self.now.elements) 0 c.args.self.now.elements) in
    block_at c.args.self.now.elements c.args.self.now.nodes c.args.e.0 there ∙ ap (λ n. Some n) (sym c.block.ensures.exact)
