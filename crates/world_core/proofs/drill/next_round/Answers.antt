use Rattle.std.proofs.Common.{◌≡◌, ◌∙◌, ◌+◌, ◌-◌, ◌*◌, ℕ, suc, ap, sym, arith}
use Rattle.std.specs.Prelude.{slice_get}
use Rattle.chare_base.specs.declared.plan.Plan.{Plan}
use Rattle.world_core.specs.declared.event.Chooser.TheVariants as choosers
use Rattle.world_core.specs.Worlds.{WorldState, chosen_of, first_above, ready_from, with_event}
use Rattle.world_core.proofs.Picks.{around, round_none, round_some}
use Rattle.world_core.proofs.drill.next_round.Goals as goal

pub returns-in-Some : goal.returns-in-Some
returns-in-Some g c =
    let p : Plan = c.args.plan.now in
    let nodes : ℕ = g.M.Placement.count c.args.map.now in
    let w : WorldState = c.args.world.now in
    let n : ℕ = 2 * c.nodes.result + 1 in
    let all : n ≡ suc (nodes + nodes) = omega (arith, c.nodes.ensures.exact) in
    let at : first_above c.args.last (ready_from p nodes w 0 n) ≡ slice_get (ready_from p nodes w c.behind.result (n - c.behind.result)) 0 =
    around p nodes w c.args.last n c.behind.result (λ h. c.behind.ensures.next (omega (arith, h)) ∙ omega arith) (λ h. c.behind.ensures.none h) in
    round_some p nodes w c.args.last n c.behind.result c.in-Some.next at (sym c.in-Some.is ∙ c.first_ready.ensures)
    ∙ ap (λ k. with_event p nodes w (chosen_of (choosers.Round c.args.last) (ready_from p nodes w 0 k))) all

pub returns-in-None : goal.returns-in-None
returns-in-None g c =
    let p : Plan = c.args.plan.now in
    let nodes : ℕ = g.M.Placement.count c.args.map.now in
    let w : WorldState = c.args.world.now in
    let n : ℕ = 2 * c.nodes.result + 1 in
    let all : n ≡ suc (nodes + nodes) = omega (arith, c.nodes.ensures.exact) in
    let whole : n - 0 ≡ n = omega arith in
    let at : first_above c.args.last (ready_from p nodes w 0 n) ≡ slice_get (ready_from p nodes w c.behind.result (n - c.behind.result)) 0 =
    around p nodes w c.args.last n c.behind.result (λ h. c.behind.ensures.next (omega (arith, h)) ∙ omega arith) (λ h. c.behind.ensures.none h) in
    c.first_ready-in-None.ensures ∙ ap (λ k. with_event p nodes w (slice_get (ready_from p nodes w 0 k) 0)) whole
    ∙ round_none p nodes w c.args.last n c.behind.result at (sym c.in-None.is ∙ c.first_ready.ensures)
    ∙ ap (λ k. with_event p nodes w (chosen_of (choosers.Round c.args.last) (ready_from p nodes w 0 k))) all
