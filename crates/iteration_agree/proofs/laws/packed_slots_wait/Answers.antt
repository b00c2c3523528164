use Rattle.iteration_agree.proofs.Following.{packed_waits}
use Rattle.iteration_agree.proofs.laws.packed_slots_wait.Goals as goal

pub returns : goal.returns
returns c = packed_waits
