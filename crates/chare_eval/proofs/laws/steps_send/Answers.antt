use Rattle.chare_eval.proofs.Steps.{steps_send}
use Rattle.chare_eval.proofs.laws.steps_send.Goals as goal

pub returns : goal.returns
returns c = steps_send
