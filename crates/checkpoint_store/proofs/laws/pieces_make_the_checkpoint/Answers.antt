use Rattle.checkpoint_store.proofs.Merging.{pieces_make}
use Rattle.checkpoint_store.proofs.laws.pieces_make_the_checkpoint.Goals as goal

pub returns : goal.returns
returns c = pieces_make c.fold_is_shaped.ensures c.record_length.ensures
