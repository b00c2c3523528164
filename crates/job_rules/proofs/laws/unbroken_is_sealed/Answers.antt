use Rattle.job_rules.proofs.Sealing.{unbroken_is_sealed}
use Rattle.job_rules.proofs.laws.unbroken_is_sealed.Goals as goal

pub returns : goal.returns
returns c = unbroken_is_sealed
