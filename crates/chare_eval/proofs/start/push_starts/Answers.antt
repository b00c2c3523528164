use Rattle.std.proofs.Common.{rules}
use Rattle.chare_eval.proofs.Starts.{starts_next}
use Rattle.chare_eval.proofs.start.push_starts.Goals as goal

pub loop-which-preserved : goal.loop-which-preserved
loop-which-preserved c = search (rules, starts_next)
