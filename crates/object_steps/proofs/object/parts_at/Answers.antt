use Rattle.std.proofs.Common.{ap, arith, length}
use Rattle.chare_base.proofs.Facts.{parts_few}
use Rattle.object_steps.proofs.object.parts_at.Goals as goal

pub returns-clause-few : goal.returns-clause-few
returns-clause-few c =
    let few = (parts_few c.args.plan.now c.args.e.0 c.array_at-array.result.now c.array_at-array.ensures c.args.step c.as_slice.result.now c.index-as_slice-step.result c.as_slice.ensures
    c.requires.step c.index-as_slice-step.is).1 in
    omega (arith, few, ap length c.as_slice-2.ensures)
