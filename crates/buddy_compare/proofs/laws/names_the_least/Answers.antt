use Rattle.buddy_compare.proofs.Verdicts.{names_the_least}
use Rattle.buddy_compare.proofs.laws.names_the_least.Goals as goal

pub returns : goal.returns
returns c = names_the_least
