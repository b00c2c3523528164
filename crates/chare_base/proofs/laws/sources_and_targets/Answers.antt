use Rattle.chare_base.proofs.Neighbours.{sources_and_targets}
use Rattle.chare_base.proofs.laws.sources_and_targets.Goals as goal

pub returns : goal.returns
returns c = sources_and_targets
