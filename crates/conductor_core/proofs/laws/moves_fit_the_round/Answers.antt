use Rattle.conductor_core.proofs.Telling.{moves_fit, phases_follow}
use Rattle.conductor_core.proofs.laws.moves_fit_the_round.Goals as goal

pub returns-clause-fit : goal.returns-clause-fit
returns-clause-fit c = moves_fit

pub returns-clause-follow : goal.returns-clause-follow
returns-clause-follow c = phases_follow
