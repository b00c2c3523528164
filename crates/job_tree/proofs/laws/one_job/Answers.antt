use Rattle.job_tree.proofs.Texts as texts
use Rattle.job_tree.proofs.laws.one_job.Goals as goal

pub returns : goal.returns
returns c = texts.one_job
