use Rattle.pup_state.proofs.Consequences.{one_state}
use Rattle.pup_state.proofs.laws.one_state.Goals as goal

pub returns : goal.returns
returns c = one_state
