use Rattle.run_ledger.proofs.Right.{records_right, strong_right}
use Rattle.run_ledger.proofs.laws.records_are_right.Goals as goal

pub returns-clause-all : goal.returns-clause-all
returns-clause-all c = records_right c.earlier_flips_decide.ensures c.equal_checkpoints_are_of_equal_folds.ensures

pub returns-clause-strong : goal.returns-clause-strong
returns-clause-strong c = strong_right c.earlier_flips_decide.ensures c.equal_checkpoints_are_of_equal_folds.ensures
