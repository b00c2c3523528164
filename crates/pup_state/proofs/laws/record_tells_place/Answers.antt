use Rattle.pup_state.proofs.Records.{tells_place}
use Rattle.pup_state.proofs.laws.record_tells_place.Goals as goal

pub returns : goal.returns
returns c = tells_place
