use Rattle.job_rules.proofs.Texts.{refused_has_none}
use Rattle.job_rules.proofs.laws.refused_has_none.Goals as goal

pub returns : goal.returns
returns c = refused_has_none
