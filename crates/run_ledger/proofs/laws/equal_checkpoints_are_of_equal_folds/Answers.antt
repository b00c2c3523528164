use Rattle.run_ledger.proofs.Checkpoints.{equal_folds}
use Rattle.run_ledger.proofs.laws.equal_checkpoints_are_of_equal_folds.Goals as goal

pub returns : goal.returns
returns c = equal_folds c.folds_are_lawful.ensures c.lawful_fits.ensures c.one_spelling.ensures
