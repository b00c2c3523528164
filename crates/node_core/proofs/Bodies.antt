-- What each call makes of a live node, from what it makes of its parts.
use Rattle.std.proofs.Common.{◌≡◌, ℕ, false, cond, List, ap, sym, ◌∙◌, Option}
use Rattle.chare_base.specs.declared.plan.Plan.{Plan}
use Rattle.chare_base.specs.declared.slots.SlotId.{SlotId}
use Rattle.chare_base.specs.Flip.{Flip}
use Rattle.letter_post.specs.declared.stamp.Stamp.{Stamp}
use Rattle.node_core.specs.Nodes.{Body, Ran, body_ran, body_ran_at, stands}
use Rattle.node_core.specs.Rosters.{Roster, seat_of}

pub ran_on : (p : Plan) (lines : List Flip) (place : List ℕ) (limit e : ℕ) (slot : SlotId) (stamp : Stamp) (roster : Roster) (inside b : Body) (seat : Option ℕ) (r : Ran) →
    inside ≡ b → inside.waits ≡ false → seat ≡ seat_of roster e → r ≡ body_ran_at p lines place limit slot stamp roster inside seat → r ≡ body_ran p lines place limit e slot stamp roster b
unfolding body_ran
ran_on p lines place limit e slot stamp roster inside b seat r same awake is told =
    told ∙ ap (body_ran_at p lines place limit slot stamp roster inside) is
    ∙ ap (λ w. cond w (stands inside) (body_ran_at p lines place limit slot stamp roster inside (seat_of roster e))) (sym awake)
    ∙ ap (body_ran p lines place limit e slot stamp roster) same
