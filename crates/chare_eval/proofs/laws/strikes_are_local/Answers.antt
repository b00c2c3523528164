use Rattle.chare_eval.proofs.Strikes.{strikes_are_local}
use Rattle.chare_eval.proofs.laws.strikes_are_local.Goals as goal

pub returns : goal.returns
returns c = strikes_are_local
