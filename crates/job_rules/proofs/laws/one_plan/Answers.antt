use Rattle.job_rules.proofs.Texts.{one_plan}
use Rattle.job_rules.proofs.laws.one_plan.Goals as goal

pub returns : goal.returns
returns c = one_plan
