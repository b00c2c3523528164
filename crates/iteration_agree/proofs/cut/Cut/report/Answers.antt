use Rattle.std.proofs.Common.{sym, subst}
use Rattle.iteration_agree.specs.Slots.{slot_reported}
use Rattle.iteration_agree.specs.Cuts.{CutState, HasSlot, slot_at, slot_of}
use Rattle.iteration_agree.specs.Under.{MayReport}
use Rattle.iteration_agree.proofs.Holding.{closes, report_holds}
use Rattle.iteration_agree.proofs.cut.Cut.report.Goals as goal

pub invariant_of-self : goal.invariant_of-self
invariant_of-self c =
    let inside : CutState = record { nodes = c.self.inside.nodes; round = c.self.inside.round; floor = c.self.inside.floor; taking = c.self.inside.taking; slots = c.self.inside.slots.items } in
    let has : HasSlot inside c.args.slot = subst (λ (v : CutState). HasSlot v c.args.slot) (sym c.self.view_is) c.requires.slot in
    let may : MayReport (slot_of inside c.args.slot) =
    subst (λ (v : CutState). MayReport (slot_of v c.args.slot)) (sym c.self.view_is) (record { gather = c.requires.gather; free = c.requires.free; once = c.requires.once }) in
    closes inside c.args.slot c.slot_place-at.result slot_reported c.index_mut.result.now c.report.new.slot c.slot_place-at.ensures.exact has c.self.invariant c.index_mut.ensures.value c.report.ensures.moved
    (λ i there is. report_holds inside i there c.self.invariant (subst (λ j. MayReport (slot_at inside.slots j)) (sym is) may))
