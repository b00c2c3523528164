use Rattle.std.proofs.Common.{◌≡◌, ◌<◌, length, length-drop, ◌∙◌, ap, arith}
use Rattle.chare_base.specs.Elements.{elements}
use Rattle.pup_state.specs.Reading.{cells_in}
use Rattle.pup_state.proofs.Steps.{sizes_next, states_next}
use Rattle.pup_state.proofs.unpack.states.Goals as goal

pub loop-e-preserved : goal.loop-e-preserved
loop-e-preserved c =
    let p = c.args.plan.now in
    let there : c.loop-e.e < elements p = omega arith in
    let next = states_next p (elements p) c.loop-e.e c.loop-e.all.items c.loop-e.rest.now there in
    let left = ap length c.behind-rest.ensures ∙ length-drop c.size_of.result c.loop-e.rest.now in
    let here : c.in_ok-cells_in.field-0 ≡ cells_in p c.loop-e.e c.loop-e.rest.now = c.in_ok-cells_in.ensures in
    record {
      told = rw (c.in_ok-push.ensures.items, here, c.behind-rest.ensures, c.size_of.ensures.exact) (next ∙ c.loop-e.invariant.told);
      room = omega (arith, left, sizes_next p (elements p) c.loop-e.e there);
    }
