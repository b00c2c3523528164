use Rattle.object_steps.proofs.Turns.{element_stays}
use Rattle.object_steps.proofs.laws.element_stays.Goals as goal

pub returns : goal.returns
returns c = element_stays
