use Rattle.std.proofs.Common.{◌≡◌, ◌++◌, ◌-◌}
use Rattle.chare_eval.specs.Opening.{cell_starts}
use Rattle.chare_eval.proofs.start.push_starts.Given as goal

abbrev pub invariant-loop-which : goal.invariant-loop-which
invariant-loop-which l = l.values.items ++ cell_starts l.scene l.start l.which (l.cells - l.which) ≡ l.fn.values.items ++ cell_starts l.scene l.start 0 l.cells
