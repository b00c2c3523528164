use Rattle.std.proofs.Common.{sym, subst}
use Rattle.iteration_agree.specs.Slots.{slot_packed}
use Rattle.iteration_agree.specs.Cuts.{CutState, HasSlot, slot_at, slot_of}
use Rattle.iteration_agree.specs.Under.{MayPack}
use Rattle.iteration_agree.proofs.Holding.{closes, pack_holds}
use Rattle.iteration_agree.proofs.cut.Cut.pack.Goals as goal

pub invariant_of-self : goal.invariant_of-self
invariant_of-self c =
    let inside : CutState = record { nodes = c.self.inside.nodes; round = c.self.inside.round; floor = c.self.inside.floor; taking = c.self.inside.taking; slots = c.self.inside.slots.items } in
    let has : HasSlot inside c.args.slot = subst (λ (v : CutState). HasSlot v c.args.slot) (sym c.self.view_is) c.requires.slot in
    let may : MayPack (slot_of inside c.args.slot) = subst (λ (v : CutState). MayPack (slot_of v c.args.slot)) (sym c.self.view_is) c.requires.agreed in
    closes inside c.args.slot c.slot_place-at.result slot_packed c.index_mut.result.now c.pack.new.slot c.slot_place-at.ensures.exact has c.self.invariant c.index_mut.ensures.value c.pack.ensures
    (λ i there is. pack_holds inside i there c.self.invariant (subst (λ j. MayPack (slot_at inside.slots j)) (sym is) may))
