use Rattle.std.proofs.Common.{sym, subst}
use Rattle.iteration_agree.specs.Slots.{slot_saw}
use Rattle.iteration_agree.specs.Cuts.{CutState, HasSlot}
use Rattle.iteration_agree.proofs.Holding.{closes, see_holds}
use Rattle.iteration_agree.proofs.cut.Cut.see.Goals as goal

pub invariant_of-self : goal.invariant_of-self
invariant_of-self c =
    let inside : CutState = record { nodes = c.self.inside.nodes; round = c.self.inside.round; floor = c.self.inside.floor; taking = c.self.inside.taking; slots = c.self.inside.slots.items } in
    let has : HasSlot inside c.args.slot = subst (λ (v : CutState). HasSlot v c.args.slot) (sym c.self.view_is) c.requires in
    closes inside c.args.slot c.slot_place-at.result (slot_saw inside.round) c.index_mut.result.now c.see.new.slot c.slot_place-at.ensures.exact has c.self.invariant c.index_mut.ensures.value c.see.ensures.moved
    (λ i there is. see_holds inside i there c.self.invariant)
