use Rattle.ref_messages.proofs.Told.{told}
use Rattle.ref_messages.proofs.laws.keys_are_told.Goals as goal

pub returns : goal.returns
returns c = told
