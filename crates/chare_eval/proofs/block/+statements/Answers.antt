use Rattle.std.proofs.Common.{rules}
use Rattle.chare_eval.proofs.Turns.{turns_next}
use Rattle.chare_eval.proofs.block.+statements.Goals as goal

pub run_one-loop-i-preserved : goal.run_one-loop-i-preserved
run_one-loop-i-preserved t c = search (rules, turns_next)
