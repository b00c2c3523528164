use Rattle.pup_state.proofs.Consequences.{packs_are_small, pieces_are_small}
use Rattle.pup_state.proofs.laws.pieces_are_small.Goals as goal

pub returns : goal.returns
returns c = record { piece = pieces_are_small; checkpoint = packs_are_small }
