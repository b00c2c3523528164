use Rattle.std.proofs.Common.{length, ap, ◌∙◌, []}
use Rattle.chare_base.specs.declared.cells.Cells.{Cells}
use Rattle.node_core.proofs.node.start_if.Goals as goal

pub start-requires-clause-cells : goal.start-requires-clause-cells
start-requires-clause-cells c =
    ap (λ (cells : Cells). length cells.numbers) c.in_ok-cells.ensures ∙ (c.objects_follow.ensures.starts c.args.plan.now [] c.args.e.0 c.requires.element).fits.cells
