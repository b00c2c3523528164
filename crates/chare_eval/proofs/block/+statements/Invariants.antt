use Rattle.std.proofs.Common.{◌≡◌, ◌-ℤ◌, drop, map}
use Rattle.chare_base.specs.Costs.{numbers_below}
use Rattle.chare_eval.specs.Block.{act, in_order, turns}
use Rattle.chare_eval.proofs.block.+statements.Given as goal

abbrev pub invariant-run_all-loop-stmt : goal.invariant-run_all-loop-stmt
invariant-run_all-loop-stmt l =
    in_order (map act (drop l.stmt-index l.block)) (record { scene = l.scene; cells = l.cells; slip = l.slip })
    ≡ in_order (map act l.block) (record { scene = l.fn.scene; cells = l.fn.cells; slip = l.fn.slip })

abbrev pub invariant-run_one-loop-i : goal.invariant-run_one-loop-i
invariant-run_one-loop-i l =
    turns (numbers_below (l.i-end -ℤ l.i)) l.i l.slot (in_order (map act l.block)) (record { scene = l.scene; cells = l.cells; slip = l.slip })
    ≡ act l.stmt (record { scene = l.fn.scene; cells = l.fn.cells; slip = l.fn.slip })
