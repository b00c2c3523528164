use Rattle.fault_script.proofs.Following as laws
use Rattle.fault_script.proofs.laws.scripts_follow.Goals as goal

pub returns : goal.returns
returns c = laws.scripts_follow
