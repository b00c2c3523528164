use Rattle.std.proofs.Common.{sym, subst}
use Rattle.iteration_agree.specs.Slots.{slot_rewound}
use Rattle.iteration_agree.specs.Cuts.{CutState, HasSlot, slot_at, slot_of}
use Rattle.iteration_agree.specs.Under.{MayRewind}
use Rattle.iteration_agree.proofs.Holding.{closes, rewind_holds}
use Rattle.iteration_agree.proofs.cut.Cut.rewind.Goals as goal

pub invariant_of-self : goal.invariant_of-self
invariant_of-self c =
    let inside : CutState = record { nodes = c.self.inside.nodes; round = c.self.inside.round; floor = c.self.inside.floor; taking = c.self.inside.taking; slots = c.self.inside.slots.items } in
    let has : HasSlot inside c.args.slot = subst (λ (v : CutState). HasSlot v c.args.slot) (sym c.self.view_is) c.requires.slot in
    let may : MayRewind c.args.base (slot_of inside c.args.slot) =
    subst (λ (v : CutState). MayRewind c.args.base (slot_of v c.args.slot)) (sym c.self.view_is) (record { few = c.requires.few; back = c.requires.back }) in
    closes inside c.args.slot c.slot_place-at.result (slot_rewound c.args.base) c.index_mut.result.now c.rewind.new.slot c.slot_place-at.ensures.exact has c.self.invariant c.index_mut.ensures.value c.rewind.ensures
    (λ i there is. rewind_holds inside i there c.self.invariant c.args.base (subst (λ j. MayRewind c.args.base (slot_at inside.slots j)) (sym is) may))
