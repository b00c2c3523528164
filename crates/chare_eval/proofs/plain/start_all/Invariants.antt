use Rattle.std.proofs.Common.{◌≡◌, ◌++◌, ◌-◌}
use Rattle.chare_eval.specs.Opening.{starts_from}
use Rattle.chare_eval.proofs.plain.start_all.Given as goal

abbrev pub invariant-loop-e : goal.invariant-loop-e
invariant-loop-e l = l.all.items ++ starts_from l.plan (l.elements - l.e) l.e ≡ starts_from l.plan l.elements 0
