use Rattle.std.proofs.Common.{◌≡◌, ◌<◌, length, length-drop, None, sym, ◌∙◌, ap, arith}
use Rattle.chare_base.specs.Elements.{elements}
use Rattle.pup_state.specs.Faults.{record_fault}
use Rattle.pup_state.proofs.Steps.{faults_next, sizes_next}
use Rattle.pup_state.proofs.unpack.records_fault.Goals as goal

pub loop-e-preserved : goal.loop-e-preserved
loop-e-preserved c =
    let p = c.args.plan.now in
    let none : record_fault p c.loop-e.e c.loop-e.first c.loop-e.at c.loop-e.rest.now ≡ None = sym c.in_default.ensures.exact in
    let there : c.loop-e.e < elements p = omega arith in
    let next = faults_next p (elements p) c.loop-e.e c.loop-e.first c.loop-e.at c.loop-e.rest.now there none in
    let left = ap length c.behind-rest.ensures ∙ length-drop c.size_of-size.result c.loop-e.rest.now in
    record {
      told = rw (c.u64_at.ensures, c.behind-rest.ensures, c.size_of-size.ensures.exact) (next ∙ c.loop-e.invariant.told);
      sizes = omega (arith, left, sizes_next p (elements p) c.loop-e.e there, c.in_default.ensures.long);
      place = omega (arith, left, c.in_default.ensures.long);
    }
