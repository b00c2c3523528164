use Rattle.chare_base.proofs.Sendings.{waits}
use Rattle.chare_base.proofs.laws.waits.Goals as goal

pub returns : goal.returns
returns c = waits
