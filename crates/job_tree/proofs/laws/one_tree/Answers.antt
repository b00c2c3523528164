use Rattle.job_tree.proofs.Texts.{one_tree}
use Rattle.job_tree.proofs.laws.one_tree.Goals as goal

pub returns : goal.returns
returns c = one_tree
