use Rattle.chare_eval.proofs.Earlier.{earlier_flips_decide}
use Rattle.chare_eval.proofs.laws.earlier_flips_decide.Goals as goal

pub returns : goal.returns
returns c = earlier_flips_decide
