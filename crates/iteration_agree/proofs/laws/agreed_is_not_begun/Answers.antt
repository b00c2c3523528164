use Rattle.iteration_agree.proofs.Changing.{agreed_stands, agreed_stands_on}
use Rattle.iteration_agree.proofs.Following.{none_is_begun, tops_stay_below}
use Rattle.iteration_agree.proofs.laws.agreed_is_not_begun.Goals as goal

pub returns-clause-tops : goal.returns-clause-tops
returns-clause-tops c = tops_stay_below

pub returns-clause-begins : goal.returns-clause-begins
returns-clause-begins c = none_is_begun

pub returns-clause-stands : goal.returns-clause-stands
returns-clause-stands c = agreed_stands

pub returns-clause-all : goal.returns-clause-all
returns-clause-all c = agreed_stands_on
