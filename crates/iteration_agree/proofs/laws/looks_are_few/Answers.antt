use Rattle.iteration_agree.proofs.Looking.{changes_raise, looks_lower}
use Rattle.iteration_agree.proofs.laws.looks_are_few.Goals as goal

pub returns-clause-look : goal.returns-clause-look
returns-clause-look c = looks_lower

pub returns-clause-change : goal.returns-clause-change
returns-clause-change c = changes_raise
