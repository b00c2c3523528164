use Rattle.chare_base.proofs.Blocks.{blocks_cover}
use Rattle.chare_base.proofs.placement.BlockMapPlacement.nodes.Goals as goal

pub returns-clause-covers : goal.returns-clause-covers
returns-clause-covers c = blocks_cover c.args.self.now.elements c.args.self.now.nodes c.args.self.now.some c.args.self.now.few
