use Rattle.iteration_agree.proofs.Changing.{begins_raise, tops_rise}
use Rattle.iteration_agree.proofs.Following.{holds_exactly}
use Rattle.iteration_agree.proofs.laws.begins_are_limited.Goals as goal

pub returns-clause-holds : goal.returns-clause-holds
returns-clause-holds c = holds_exactly

pub returns-clause-raise : goal.returns-clause-raise
returns-clause-raise c = begins_raise

pub returns-clause-tops : goal.returns-clause-tops
returns-clause-tops c = tops_rise
