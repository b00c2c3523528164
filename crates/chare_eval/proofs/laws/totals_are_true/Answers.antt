use Rattle.chare_eval.proofs.Totals.{totals_are_true}
use Rattle.chare_eval.proofs.laws.totals_are_true.Goals as goal

pub returns : goal.returns
returns c = totals_are_true
