use Rattle.pup_state.proofs.Consequences.{no_prefix}
use Rattle.pup_state.proofs.laws.no_prefix.Goals as goal

pub returns : goal.returns
returns c = no_prefix
