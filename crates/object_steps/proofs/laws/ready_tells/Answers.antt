use Rattle.object_steps.proofs.Turns.{ready_tells}
use Rattle.object_steps.proofs.laws.ready_tells.Goals as goal

pub returns : goal.returns
returns c = ready_tells
