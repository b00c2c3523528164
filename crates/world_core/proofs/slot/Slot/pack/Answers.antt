use Rattle.std.proofs.Common.{◌≡◌, ◌∙◌, Some, ap, sym, subst}
use Rattle.fault_script.specs.Lines.{faults_of}
use Rattle.iteration_agree.specs.Cuts.{CutState, HasSlot, slot_of}
use Rattle.iteration_agree.specs.Under.{MayPack}
use Rattle.chare_base.specs.declared.slots.SlotId.{SlotId}
use Rattle.node_core.specs.Nodes.{Outcome}
use Rattle.world_core.specs.declared.doing.Since.TheVariants.{Nothing}
use Rattle.world_core.specs.declared.doing.SlotMove.TheVariants.{Pack}
use Rattle.world_core.specs.Sound.{Served}
use Rattle.world_core.specs.Steps.{setting}
use Rattle.world_core.specs.Worlds.{Setting, SlotState, slot_move}
use Rattle.world_core.proofs.Slots.{may_make, packed_after, packed_has, renews}
use Rattle.world_core.proofs.slot.Slot.pack.Goals as goal

pub pack-requires-2-clause-agreed : goal.pack-requires-2-clause-agreed
pack-requires-2-clause-agreed g c =
    let may = (may_make c.args.setting.now.plan c.args.cut.now c.args.self.now (Pack c.args.k) c.requires.due).0 in
    let named : c.args.self.now.node.slot ≡ c.slot-slot.result = sym (c.slot-slot.ensures ∙ ap (λ (y : SlotState). y.node.slot) c.self.view_is) in
    subst (λ (q : SlotId). MayPack (slot_of c.args.cut.now q)) named may

pub renew-requires : goal.renew-requires
renew-requires g c =
    let s : Setting = setting c.setting.inside.plan.now (faults_of c.setting.inside.script.now) (g.M.Placement.place c.setting.inside.map.now) (g.M.Placement.count c.setting.inside.map.now) in
    let inside : SlotState = record { node = c.self.inside.node; box = c.self.inside.inbox; back = c.self.inside.back; since = c.self.inside.since; seats = c.self.inside.seats; doing = c.self.inside.doing } in
    let served : Served s c.args.cut.now inside = subst (λ (t : Setting). Served t c.args.cut.now inside) (sym c.setting.view_is) (subst (Served c.args.setting.now c.args.cut.now) (sym c.self.view_is) c.requires.served) in
    let due = subst (λ (t : Setting). slot_move t.plan c.args.cut.now inside ≡ Some (Pack c.args.k)) (sym c.setting.view_is) (subst (λ (y : SlotState). slot_move c.args.setting.now.plan c.args.cut.now y ≡ Some (Pack c.args.k)) (sym c.self.view_is) c.requires.due) in
    let may = (may_make s.plan c.args.cut.now inside (Pack c.args.k) due).1 in
    let after = packed_after c.nodes_keep.ensures.fits c.nodes_keep.ensures.packs s c.args.cut.now inside c.args.k c.pack.new.self served may (ap (λ (o : Outcome). o.node) c.in_ok-out.ensures.ok) in
    let has : HasSlot c.pack-2.new.self inside.node.slot = subst (λ (d : CutState). HasSlot d inside.node.slot) (sym c.pack-2.ensures) (packed_has c.slot-slot.result inside.node.slot c.args.cut.now served.fresh.renews.slot) in
    renews s.plan c.pack-2.new.self inside.node.slot (record { node = c.pack.new.self; box = c.self.inside.inbox; back = c.self.inside.back; since = Nothing; seats = c.self.inside.seats; doing = c.self.inside.doing }) after has
