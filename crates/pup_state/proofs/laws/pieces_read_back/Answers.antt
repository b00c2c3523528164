use Rattle.pup_state.proofs.Consequences.{pieces_read_back}
use Rattle.pup_state.proofs.laws.pieces_read_back.Goals as goal

pub returns : goal.returns
returns c = pieces_read_back
