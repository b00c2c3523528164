use Rattle.pup_state.proofs.Consequences.{lawful_fits}
use Rattle.pup_state.proofs.laws.lawful_fits.Goals as goal

pub returns : goal.returns
returns c = lawful_fits
