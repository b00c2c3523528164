use Rattle.std.proofs.Common.{◌∙◌, ap, sym, subst}
use Rattle.fault_script.specs.Lines.{faults_of}
use Rattle.node_core.specs.Nodes.{Outcome}
use Rattle.world_core.specs.Sound.{Served}
use Rattle.letter_post.specs.declared.stamp.Stamp.{Stamp}
use Rattle.world_core.specs.Steps.{reach_of, setting}
use Rattle.world_core.specs.Worlds.{Setting, SlotState, slot_heard, stand}
use Rattle.world_core.proofs.Slots.{heard_after}
use Rattle.world_core.proofs.SlotsActed.{heard_seats, heard_slot}
use Rattle.world_core.proofs.slot.Slot.hear_letter.Goals as goal

pub tell-requires-clause-seats : goal.tell-requires-clause-seats
tell-requires-clause-seats g c =
    let s : Setting = setting c.setting.inside.plan.now (faults_of c.setting.inside.script.now) (g.M.Placement.place c.setting.inside.map.now) (g.M.Placement.count c.setting.inside.map.now) in
    let inside : SlotState = record { node = c.self.inside.node; box = c.self.inside.inbox; back = c.self.inside.back; since = c.self.inside.since; seats = c.self.inside.seats; doing = c.self.inside.doing } in
    let served : Served s c.args.cut.now inside = subst (λ (t : Setting). Served t c.args.cut.now inside) (sym c.setting.view_is) (subst (Served c.args.setting.now c.args.cut.now) (sym c.self.view_is) c.requires.served) in
    let at = c.standing-standing.ensures ∙ ap (stand c.args.cut.now) c.slot.ensures in
    heard_seats s c.args.cut.now inside c.in-Some.letter c.standing-standing.result c.hear.new.self c.in_ok-out-in-Some.field-0 c.reach_of-reach.result c.mark_by.new.seats served.fresh.renews.fits at served.fresh.seats c.in_ok-out-in-Some.ensures.ok (c.reach_of-reach.ensures ∙ ap (λ (t : Stamp). reach_of t c.in-Some.letter) c.stamp.ensures) c.in_ok-mark_by-in-Some.ensures

pub returns-in_ok-mark_by-in-Some : goal.returns-in_ok-mark_by-in-Some
returns-in_ok-mark_by-in-Some g c =
    let s : Setting = setting c.setting.inside.plan.now (faults_of c.setting.inside.script.now) (g.M.Placement.place c.setting.inside.map.now) (g.M.Placement.count c.setting.inside.map.now) in
    let inside : SlotState = record { node = c.self.inside.node; box = c.self.inside.inbox; back = c.self.inside.back; since = c.self.inside.since; seats = c.self.inside.seats; doing = c.self.inside.doing } in
    let served : Served s c.args.cut.now inside = subst (λ (t : Setting). Served t c.args.cut.now inside) (sym c.setting.view_is) (subst (Served c.args.setting.now c.args.cut.now) (sym c.self.view_is) c.requires.served) in
    let at = c.standing-standing.ensures ∙ ap (stand c.args.cut.now) c.slot.ensures in
    let after = ap (λ (o : Outcome). o.node) c.in_ok-out-in-Some.ensures.ok in
    let own = (heard_after c.nodes_keep.ensures.fits c.nodes_keep.ensures.hears s c.args.cut.now inside c.in-Some.letter c.take.new.self c.hear.new.self served c.in-Some.ensures after).slot in
    heard_slot s c.args.cut.now inside c.in-Some.letter c.standing-standing.result c.hear.new.self c.in_ok-out-in-Some.field-0 c.reach_of-reach.result c.mark_by.new.seats served.fresh.renews.fits c.round.result c.take.new.self
    c.back_after-self-inside.result c.since_after-self-inside.result c.tell.new.self c.in-Some.ensures c.back_after-self-inside.ensures c.since_after-self-inside.ensures
    c.round.ensures.exact at served.fresh.seats c.in_ok-out-in-Some.ensures.ok (c.reach_of-reach.ensures ∙ ap (λ (t : Stamp). reach_of t c.in-Some.letter) c.stamp.ensures) c.in_ok-mark_by-in-Some.ensures own c.tell.ensures
    ∙ ap (λ (y : SlotState). slot_heard s c.args.cut.now y y.box) c.self.view_is
    ∙ ap (λ (t : Setting). slot_heard t c.args.cut.now c.args.self.now c.args.self.now.box) c.setting.view_is
