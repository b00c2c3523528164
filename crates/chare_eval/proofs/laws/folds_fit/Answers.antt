use Rattle.chare_eval.proofs.Fitting.{folds_fit}
use Rattle.chare_eval.proofs.laws.folds_fit.Goals as goal

pub returns : goal.returns
returns c = folds_fit
