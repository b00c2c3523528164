use Rattle.chare_base.proofs.Joined.{joined_is_lawful}
use Rattle.chare_base.proofs.total.joined_is_lawful.Goals as goal

pub returns : goal.returns
returns c = joined_is_lawful
