use Rattle.run_ledger.proofs.OneReplica.{one_replica_is_apart}
use Rattle.run_ledger.proofs.laws.one_replica_is_apart.Goals as goal

pub returns : goal.returns
returns c = one_replica_is_apart
