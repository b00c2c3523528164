use Rattle.std.proofs.Common.{◌∙◌, ◌-◌, ◌+◌, ◌*◌, ◌++◌, ℕ, true, false, ap, sym, arith}
use Rattle.std.specs.Prelude.{is_some}
use Rattle.world_core.specs.Worlds.{actor_at, enabled, ready_from}
use Rattle.world_core.proofs.Picks.{ready_on}
use Rattle.world_core.proofs.drill.find_ready.Goals as goal
use Rattle.world_core.proofs.drill.find_ready.Goals.{then-is_some+in_ok-push, else-is_some}

pub loop-i-preserved : goal.loop-i-preserved
loop-i-preserved g c =
    let nodes : ℕ = g.M.Placement.count c.args.map.now in
    let n : ℕ = 2 * c.nodes-nodes.result + 1 in
    let on = ready_on c.args.plan.now nodes c.args.world.now c.loop-i.i (n - c.loop-i.i) (n - (c.loop-i.i + 1)) c.loop-i.ready.items (c.args.ready.now.items ++ ready_from c.args.plan.now nodes c.args.world.now 0 n) in
    let here = c.enabled.ensures ∙ ap (enabled c.args.plan.now nodes c.args.world.now) (c.actor_at.ensures ∙ ap (λ m. actor_at m c.loop-i.i) c.nodes-nodes.ensures.exact) in
    elim c.if-is_some.branch [
      | then-is_some+in_ok-push w ↦
          on c.if-is_some.ready.items true (omega (arith, c.loop-i-test.true)) (omega arith) (sym (ap is_some here) ∙ sym c.is_some.ensures ∙ w.if-is_some.true)
          (ap (λ v. v.items) w.ready-is ∙ w.in_ok-push.ensures.items) c.loop-i.invariant
      | else-is_some w ↦
          on c.if-is_some.ready.items false (omega (arith, c.loop-i-test.true)) (omega arith) (sym (ap is_some here) ∙ sym c.is_some.ensures ∙ w.if-is_some.false)
          (ap (λ v. v.items) w.ready-is) c.loop-i.invariant
    ]
