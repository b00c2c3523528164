use Rattle.pup_state.proofs.Lengths.{field_length}
use Rattle.pup_state.proofs.laws.field_length.Goals as goal

pub returns : goal.returns
returns c = field_length
