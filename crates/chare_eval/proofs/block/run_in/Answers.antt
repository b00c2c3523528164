use Rattle.chare_eval.specs.Block.{with_values}
use Rattle.chare_eval.proofs.Appends.{part_cells, part_sent}
use Rattle.chare_eval.proofs.block.run_in.Goals as goal

pub returns-clause-cells : goal.returns-clause-cells
returns-clause-cells c =
    part_cells c.args.plan.now c.args.e.0 c.args.step c.args.iteration c.args.block.now (with_values c.args.scene.now.values) c.args.cells.now c.args.sent.now.items c.reserve.new.self.items c.run_top.new.sent.items
    c.enter.new.scene c.run_top.new.scene c.run_top.new.cells c.run_top.new.slip c.note_slip.new.kept c.enter.ensures c.in_ok-reserve.ensures.items c.run_top.ensures c.note_slip.ensures

pub returns-clause-sent : goal.returns-clause-sent
returns-clause-sent c =
    part_sent c.args.plan.now c.args.e.0 c.args.step c.args.iteration c.args.block.now (with_values c.args.scene.now.values) c.args.cells.now c.args.sent.now.items c.reserve.new.self.items c.run_top.new.sent.items
    c.enter.new.scene c.run_top.new.scene c.run_top.new.cells c.run_top.new.slip c.note_slip.new.kept c.enter.ensures c.in_ok-reserve.ensures.items c.run_top.ensures c.note_slip.ensures
