use Rattle.std.proofs.Common.{sym, subst}
use Rattle.iteration_agree.specs.Cuts.{CutState}
use Rattle.world_core.specs.Steps.{Renews}
use Rattle.world_core.specs.Worlds.{SlotState, back_by, with_back}
use Rattle.world_core.proofs.Slots.{shifted_has}
use Rattle.world_core.proofs.slot.Slot.shift.Goals as goal

pub renew-requires : goal.renew-requires
renew-requires c =
    let x : SlotState = c.args.self.now in
    subst (λ (y : SlotState). Renews c.args.plan.now c.move_in.new.cut y) (sym c.move_in.ensures.slot)
    (subst (λ (d : CutState). Renews c.args.plan.now d (with_back (back_by c.args.due x.back) x)) (sym c.move_in.ensures.cut)
    (record { fits = c.requires.renews.fits; roster = c.requires.renews.roster; slot = shifted_has x.node.slot x.node.slot c.args.due c.args.cut.now c.requires.renews.slot }))
