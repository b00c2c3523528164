use Rattle.world_core.proofs.Serving.{sound_serves}
use Rattle.world_core.proofs.laws.sound_worlds_serve.Goals as goal

pub returns : goal.returns
returns c = sound_serves c.nodes_keep.ensures.fits
