use Rattle.run_ledger.proofs.Following.{faults_stay, stays_tidy}
use Rattle.run_ledger.proofs.laws.ledgers_stay_tidy.Goals as goal

pub returns-clause-tidy : goal.returns-clause-tidy
returns-clause-tidy c = stays_tidy

pub returns-clause-faults : goal.returns-clause-faults
returns-clause-faults c = faults_stay
