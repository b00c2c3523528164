use Rattle.chare_eval.proofs.Slips.{slips_are_noted}
use Rattle.chare_eval.proofs.laws.slips_are_noted.Goals as goal

pub returns : goal.returns
returns c = slips_are_noted
