use Rattle.std.proofs.Common.{◌≡◌, drop}
use Rattle.chare_eval.specs.Block.{filled_from, filled_of}
use Rattle.chare_eval.proofs.block.filled.Given as goal

-- what is left of the expressions takes the values so far to all of them
abbrev pub invariant-loop-i : goal.invariant-loop-i
invariant-loop-i l =
    filled_from l.i (drop l.i l.values) (record { scene = l.scene; cells = l.cells; slip = l.fn.slip }) (record { values = l.filled; slip = l.slip })
    ≡ filled_of l.values (record { scene = l.scene; cells = l.cells; slip = l.fn.slip })
