use Rattle.job_rules.proofs.Texts.{one_refusal}
use Rattle.job_rules.proofs.laws.one_refusal.Goals as goal

pub returns : goal.returns
returns c = one_refusal
