use Rattle.std.proofs.Common.{None}
use Rattle.chare_base.specs.Total.{joined_to}
use Rattle.run_report.specs.Answers.{numbers_over}
use Rattle.run_report.proofs.Joins.{member_next}
use Rattle.run_report.proofs.totals.join_members.Goals as goal

pub loop-cells-preserved : goal.loop-cells-preserved
loop-cells-preserved c =
    member_next c.args.how c.args.state.now c.args.members.now c.loop-cells.cells-index c.cells-item.result c.loop-cells.total c.join_cells-total.result
    (joined_to c.args.how None (numbers_over c.args.state.now c.args.members.now)) c.loop-cells-test.true c.cells-item.is c.join_cells-total.ensures c.loop-cells.invariant
