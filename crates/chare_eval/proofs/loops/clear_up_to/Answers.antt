use Rattle.std.proofs.Common.{◌+◌, ◌∙◌, arith}
use Rattle.chare_eval.proofs.Variables.{cleared_at, cleared_len}
use Rattle.chare_eval.proofs.loops.clear_up_to.Goals as goal

pub loop-i-preserved : goal.loop-i-preserved
loop-i-preserved c = record {
  told = cleared_at c.loop-i.i (c.loop-i.i + 1) c.loop-i.numbers (omega arith) ∙ c.loop-i.invariant.told;
  len = cleared_len c.loop-i.i c.loop-i.numbers ∙ c.loop-i.invariant.len;
}
