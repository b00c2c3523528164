use Rattle.run_ledger.proofs.Fair.{accept_then_done}
use Rattle.run_ledger.proofs.laws.accept_then_done_is_lawful.Goals as goal

pub returns : goal.returns
returns c = accept_then_done
