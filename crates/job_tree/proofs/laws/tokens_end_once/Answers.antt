use Rattle.job_tree.proofs.Ends as ends
use Rattle.job_tree.proofs.laws.tokens_end_once.Goals as goal

pub returns : goal.returns
returns c = ends.tokens_end_once
