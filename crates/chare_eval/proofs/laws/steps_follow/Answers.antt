use Rattle.chare_eval.proofs.Steps.{steps_follow}
use Rattle.chare_eval.proofs.laws.steps_follow.Goals as goal

pub returns : goal.returns
returns c = steps_follow
