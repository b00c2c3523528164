use Rattle.std.proofs.Common.{◌∙◌, ◌+◌, ◌-◌, ℕ, ap, sym, refl, arith}
use Rattle.chare_base.specs.declared.plan.Plan.{Plan}
use Rattle.world_core.specs.Worlds.{WorldState, actor_at, enabled, with_event}
use Rattle.world_core.proofs.Picks.{here_is, not_here}
use Rattle.world_core.proofs.drill.first_ready.Goals as goal

pub returns-in-Some : goal.returns-in-Some
returns-in-Some g c =
    let p : Plan = c.args.plan.now in
    let nodes : ℕ = g.M.Placement.count c.args.map.now in
    let w : WorldState = c.args.world.now in
    let here = c.enabled.ensures ∙ ap (enabled p nodes w) (c.actor_at.ensures ∙ ap (λ m. actor_at m c.loop-i.i) c.nodes-nodes.ensures.exact) in
    here_is p nodes w c.loop-i.i (c.args.actors - c.loop-i.i) c.in-Some.event (omega (arith, c.loop-i-test.true)) (sym c.in-Some.is ∙ here)
    ∙ ap (with_event p nodes w) c.loop-i.invariant

pub loop-i-preserved : goal.loop-i-preserved
loop-i-preserved g c =
    let p : Plan = c.args.plan.now in
    let nodes : ℕ = g.M.Placement.count c.args.map.now in
    let w : WorldState = c.args.world.now in
    let here = c.enabled.ensures ∙ ap (enabled p nodes w) (c.actor_at.ensures ∙ ap (λ m. actor_at m c.loop-i.i) c.nodes-nodes.ensures.exact) in
    not_here p nodes w c.loop-i.i (c.loop-i.i + 1) (c.args.actors - c.loop-i.i) (c.args.actors - (c.loop-i.i + 1)) (omega (arith, c.loop-i-test.true)) (omega arith) refl (sym c.in_default.is ∙ here)
    ∙ c.loop-i.invariant
