use Rattle.std.proofs.Common.{◌∙◌, ap, sym, length, arith}
use Rattle.chare_base.proofs.Facts.{cols_are, steps_are, steps_few, parts_few, part_below, need_here, block_here}
use Rattle.chare_base.proofs.plan.Plan.part_at.Goals as goal

pub overflow_cast-result : goal.overflow_cast-result
overflow_cast-result c = omega (arith, steps_few c.args.self.now c.args.e.0 c.array_at-array.result.now c.array_at-array.ensures, c.len.ensures)

pub overflow_cast-result-2 : goal.overflow_cast-result-2
overflow_cast-result-2 c =
    let few = parts_few c.args.self.now c.args.e.0 c.array_at-array.result.now c.array_at-array.ensures c.args.spot.step c.as_slice.result.now c.index-as_slice-spot.result c.as_slice.ensures c.requires.step c.index-as_slice-spot.is in
    omega (arith, few.1, c.len-2.ensures)

pub bounds-as_slice-spot-2 : goal.bounds-as_slice-spot-2
bounds-as_slice-spot-2 c = part_below c.args.self.now c.args.e.0 c.args.spot.step c.args.spot.part c.as_slice.result.now c.index-as_slice-spot.result c.as_slice-2.result.now c.array_at-array.result.now c.array_at-array.ensures
    c.as_slice.ensures c.requires.step c.index-as_slice-spot.is c.as_slice-2.ensures c.requires.part

pub returns-clause-cols : goal.returns-clause-cols
returns-clause-cols c = sym (cols_are c.args.self.now c.args.e.0 c.array_at-array.result.now c.array_at-array.ensures)

pub returns-clause-steps : goal.returns-clause-steps
returns-clause-steps c = c.len.ensures ∙ ap length (sym (steps_are c.args.self.now c.args.e.0 c.array_at-array.result.now c.array_at-array.ensures))

pub returns-clause-few : goal.returns-clause-few
returns-clause-few c = omega (arith, steps_few c.args.self.now c.args.e.0 c.array_at-array.result.now c.array_at-array.ensures, c.len.ensures)

pub returns-clause-parts : goal.returns-clause-parts
returns-clause-parts c =
    let few = parts_few c.args.self.now c.args.e.0 c.array_at-array.result.now c.array_at-array.ensures c.args.spot.step c.as_slice.result.now c.index-as_slice-spot.result c.as_slice.ensures c.requires.step c.index-as_slice-spot.is in
    c.len-2.ensures ∙ ap length (sym few.0)

pub returns-clause-few_parts : goal.returns-clause-few_parts
returns-clause-few_parts c =
    let few = parts_few c.args.self.now c.args.e.0 c.array_at-array.result.now c.array_at-array.ensures c.args.spot.step c.as_slice.result.now c.index-as_slice-spot.result c.as_slice.ensures c.requires.step c.index-as_slice-spot.is in
    omega (arith, few.1, c.len-2.ensures)

pub returns-clause-need : goal.returns-clause-need
returns-clause-need c = need_here c.args.self.now c.args.e.0 c.args.spot.step c.args.spot.part c.as_slice.result.now c.index-as_slice-spot.result c.as_slice-2.result.now c.array_at-array.result.now c.array_at-array.ensures
    c.as_slice.ensures c.requires.step c.index-as_slice-spot.is c.as_slice-2.ensures c.index-as_slice-spot-2.result c.requires.part c.index-as_slice-spot-2.is

pub returns-clause-block : goal.returns-clause-block
returns-clause-block c = block_here c.args.self.now c.args.e.0 c.args.spot.step c.args.spot.part c.as_slice.result.now c.index-as_slice-spot.result c.as_slice-2.result.now c.array_at-array.result.now c.array_at-array.ensures
    c.as_slice.ensures c.requires.step c.index-as_slice-spot.is c.as_slice-2.ensures c.index-as_slice-spot-2.result c.requires.part c.index-as_slice-spot-2.is
