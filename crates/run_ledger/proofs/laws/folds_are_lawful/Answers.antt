use Rattle.run_ledger.proofs.Checkpoints.{folds_are_lawful}
use Rattle.run_ledger.proofs.laws.folds_are_lawful.Goals as goal

pub returns : goal.returns
returns c = folds_are_lawful c.fold_is_shaped.ensures c.folds_fit.ensures c.slips_are_noted.ensures
