use Rattle.chare_base.proofs.Apart.{parts_are_apart}
use Rattle.chare_base.proofs.laws.parts_are_apart.Goals as goal

pub returns : goal.returns
returns c = parts_are_apart
