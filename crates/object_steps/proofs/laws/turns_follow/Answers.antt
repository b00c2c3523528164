use Rattle.object_steps.proofs.Along.{turns_follow}
use Rattle.object_steps.proofs.laws.turns_follow.Goals as goal

pub returns : goal.returns
returns c = turns_follow c.objects_follow.ensures
