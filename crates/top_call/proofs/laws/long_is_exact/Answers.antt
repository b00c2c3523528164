use Rattle.top_call.proofs.Lengths.{exact}
use Rattle.top_call.proofs.laws.long_is_exact.Goals as goal

pub returns : goal.returns
returns c = exact
