use Rattle.pup_state.proofs.Once.{one_spelling}
use Rattle.pup_state.proofs.laws.one_spelling.Goals as goal

pub returns : goal.returns
returns c = one_spelling
