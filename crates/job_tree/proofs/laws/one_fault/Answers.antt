use Rattle.job_tree.proofs.Unique.{one_fault}
use Rattle.job_tree.proofs.laws.one_fault.Goals as goal

pub returns : goal.returns
returns c = one_fault
