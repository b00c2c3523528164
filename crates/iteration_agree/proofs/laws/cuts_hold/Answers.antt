use Rattle.iteration_agree.proofs.Following.{every_cut_holds, moves_keep, start_is_cut}
use Rattle.iteration_agree.proofs.laws.cuts_hold.Goals as goal

pub returns-clause-start : goal.returns-clause-start
returns-clause-start c = start_is_cut

pub returns-clause-moves : goal.returns-clause-moves
returns-clause-moves c = moves_keep

pub returns-clause-all : goal.returns-clause-all
returns-clause-all c = every_cut_holds
