use Rattle.run_ledger.proofs.Fair.{lineages_stay_empty}
use Rattle.run_ledger.proofs.laws.lineages_stay_empty.Goals as goal

pub returns : goal.returns
returns c = lineages_stay_empty
