use Rattle.iteration_agree.proofs.Following.{agreed_is_greatest, agrees_on_greatest, agrees_unless}
use Rattle.iteration_agree.proofs.laws.agreement_is_exact.Goals as goal

pub returns-clause-missing : goal.returns-clause-missing
returns-clause-missing c = agrees_unless

pub returns-clause-greatest : goal.returns-clause-greatest
returns-clause-greatest c = agrees_on_greatest

pub returns-clause-stands : goal.returns-clause-stands
returns-clause-stands c = agreed_is_greatest
