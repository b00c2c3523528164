use Rattle.chare_eval.proofs.Shapes.{fold_shape}
use Rattle.chare_eval.proofs.laws.fold_is_shaped.Goals as goal

pub returns : goal.returns
returns c = fold_shape
