use Rattle.chare_base.proofs.Sendings.{sends_are_declared}
use Rattle.chare_base.proofs.laws.sends_are_declared.Goals as goal

pub returns : goal.returns
returns c = sends_are_declared
