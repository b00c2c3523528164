use Rattle.world_core.proofs.Starting.{start_afloat}
use Rattle.world_core.proofs.laws.worlds_start_afloat.Goals as goal

pub returns : goal.returns
returns c = start_afloat
