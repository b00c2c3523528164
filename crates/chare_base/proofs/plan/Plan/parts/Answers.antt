use Rattle.std.proofs.Common.{◌∙◌, ap, sym, length, arith}
use Rattle.chare_base.proofs.Facts.{parts_few}
use Rattle.chare_base.proofs.plan.Plan.parts.Goals as goal

pub overflow_cast-result : goal.overflow_cast-result
overflow_cast-result c =
    let few = parts_few c.args.self.now c.args.e.0 c.array_of.result.now c.array_of.ensures c.args.step c.as_slice.result.now c.index-as_slice-step.result c.as_slice.ensures c.requires.step c.index-as_slice-step.is in
    omega (arith, few.1, c.len.ensures)

pub returns-clause-exact : goal.returns-clause-exact
returns-clause-exact c =
    let few = parts_few c.args.self.now c.args.e.0 c.array_of.result.now c.array_of.ensures c.args.step c.as_slice.result.now c.index-as_slice-step.result c.as_slice.ensures c.requires.step c.index-as_slice-step.is in
    c.len.ensures ∙ ap length (sym few.0)

pub returns-clause-few : goal.returns-clause-few
returns-clause-few c =
    let few = parts_few c.args.self.now c.args.e.0 c.array_of.result.now c.array_of.ensures c.args.step c.as_slice.result.now c.index-as_slice-step.result c.as_slice.ensures c.requires.step c.index-as_slice-step.is in
    omega (arith, few.1, c.len.ensures)
