use Rattle.chare_eval.proofs.Later.{inside, later}
use Rattle.chare_eval.proofs.laws.later_flips_decide.Goals as goal

pub returns-clause-states : goal.returns-clause-states
returns-clause-states c = later

pub returns-clause-inside : goal.returns-clause-inside
returns-clause-inside c = inside
