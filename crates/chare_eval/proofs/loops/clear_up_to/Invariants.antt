use Rattle.std.proofs.Common.{◌≡◌, length}
use Rattle.chare_eval.specs.Loops.{shown}
use Rattle.chare_eval.proofs.loops.clear_up_to.Given as goal

abbrev pub invariant-loop-i : goal.invariant-loop-i
invariant-loop-i l = record {
  told : shown l.i l.numbers ≡ shown l.written l.fn.numbers;
  len : length l.numbers ≡ length l.fn.numbers;
}
