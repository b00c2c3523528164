use Rattle.chare_eval.proofs.Widths.{messages_fit}
use Rattle.chare_eval.proofs.laws.messages_fit.Goals as goal

pub returns : goal.returns
returns c = messages_fit
