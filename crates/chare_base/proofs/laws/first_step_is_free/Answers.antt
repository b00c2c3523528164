use Rattle.chare_base.proofs.Sendings.{first_step_is_free}
use Rattle.chare_base.proofs.laws.first_step_is_free.Goals as goal

pub returns : goal.returns
returns c = first_step_is_free
