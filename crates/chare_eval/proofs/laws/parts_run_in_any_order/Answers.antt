use Rattle.chare_eval.proofs.Steps.{parts_run_in_any_order}
use Rattle.chare_eval.proofs.laws.parts_run_in_any_order.Goals as goal

pub returns : goal.returns
returns c = parts_run_in_any_order
