use Rattle.std.proofs.Common.{◌≡◌, ◌++◌, drop}
use Rattle.chare_eval.specs.Opening.{starts}
use Rattle.chare_eval.proofs.start.start_values.Given as goal

abbrev pub invariant-loop-state : goal.invariant-loop-state
invariant-loop-state l = l.values.items ++ starts l.scene (drop l.state-index l.states) ≡ starts l.scene l.states
