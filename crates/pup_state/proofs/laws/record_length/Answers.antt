use Rattle.pup_state.proofs.Lengths.{record_length}
use Rattle.pup_state.proofs.laws.record_length.Goals as goal

pub returns : goal.returns
returns c = record_length
