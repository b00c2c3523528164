use Rattle.chare_base.proofs.Apart.{uses_are_within}
use Rattle.chare_base.proofs.laws.uses_are_within.Goals as goal

pub returns : goal.returns
returns c = uses_are_within
