use Rattle.std.proofs.Common.{rules}
use Rattle.chare_eval.proofs.Starts.{opened_next}
use Rattle.chare_eval.proofs.plain.start_all.Goals as goal

pub loop-e-preserved : goal.loop-e-preserved
loop-e-preserved c = search (rules, opened_next)
