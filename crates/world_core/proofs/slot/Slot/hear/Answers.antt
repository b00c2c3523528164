use Rattle.std.proofs.Common.{◌∙◌, ◌∷◌, [], List, Ok, refl, ap, sym, subst, drop}
use Rattle.fault_script.specs.Lines.{faults_of}
use Rattle.iteration_agree.specs.Cuts.{HasSlot}
use Rattle.letter_post.specs.declared.letter.Letter.{Letter}
use Rattle.letter_post.specs.declared.letter.Sent.{Sent}
use Rattle.node_core.specs.Nodes.{NodeState, Outcome}
use Rattle.world_core.specs.declared.doing.Readiness.{Readiness}
use Rattle.world_core.specs.Sound.{Served}
use Rattle.world_core.specs.Steps.{ParcelHeard, reach_of, setting}
use Rattle.world_core.specs.Worlds.{Acted, Setting, SlotState, slot_heard, stand}
use Rattle.world_core.proofs.Slots.{heard_after}
use Rattle.world_core.proofs.SlotsActed.{heard_seats, heard_slot}
use Rattle.world_core.proofs.slot.Slot.hear.Goals as goal

pub tell_in-requires-clause-seats : goal.tell_in-requires-clause-seats
tell_in-requires-clause-seats g c =
    let s : Setting = setting c.setting.inside.plan.now (faults_of c.setting.inside.script.now) (g.M.Placement.place c.setting.inside.map.now) (g.M.Placement.count c.setting.inside.map.now) in
    let inside : SlotState = record { node = c.self.inside.node; box = c.self.inside.inbox; back = c.self.inside.back; since = c.self.inside.since; seats = c.self.inside.seats; doing = c.self.inside.doing } in
    let served : Served s c.args.cut.now inside = subst (λ (t : Setting). Served t c.args.cut.now inside) (sym c.setting.view_is) (subst (Served c.args.setting.now c.args.cut.now) (sym c.self.view_is) c.requires.served) in
    let h : ParcelHeard s inside.box inside.node inside.seats c.hear_parcel.new.node c.hear_parcel.new.seats = subst (λ (t : Setting). ParcelHeard t inside.box inside.node inside.seats c.hear_parcel.new.node c.hear_parcel.new.seats) (sym c.setting.view_is) (c.hear_parcel.ensures.heard (c.in_ok-hear_parcel.was ∙ ap Ok c.if-branch.true)) in
    let own = (heard_after c.nodes_keep.ensures.fits c.nodes_keep.ensures.hears s c.args.cut.now inside h.letter (drop 1 inside.box) c.hear_parcel.new.node served h.first (ap (λ (o : Outcome). o.node) h.heard)).slot in
    let at = ap (stand c.args.cut.now) own in
    heard_seats s c.args.cut.now inside h.letter (stand c.args.cut.now c.hear_parcel.new.node.slot) c.hear_parcel.new.node [] (reach_of inside.node.last.stamp h.letter) c.hear_parcel.new.seats served.fresh.renews.fits at served.fresh.seats h.heard refl
    (h.marked (stand c.args.cut.now c.hear_parcel.new.node.slot).top)

pub tell_in-requires-clause-slot : goal.tell_in-requires-clause-slot
tell_in-requires-clause-slot g c =
    let s : Setting = setting c.setting.inside.plan.now (faults_of c.setting.inside.script.now) (g.M.Placement.place c.setting.inside.map.now) (g.M.Placement.count c.setting.inside.map.now) in
    let inside : SlotState = record { node = c.self.inside.node; box = c.self.inside.inbox; back = c.self.inside.back; since = c.self.inside.since; seats = c.self.inside.seats; doing = c.self.inside.doing } in
    let served : Served s c.args.cut.now inside = subst (λ (t : Setting). Served t c.args.cut.now inside) (sym c.setting.view_is) (subst (Served c.args.setting.now c.args.cut.now) (sym c.self.view_is) c.requires.served) in
    let h : ParcelHeard s inside.box inside.node inside.seats c.hear_parcel.new.node c.hear_parcel.new.seats = subst (λ (t : Setting). ParcelHeard t inside.box inside.node inside.seats c.hear_parcel.new.node c.hear_parcel.new.seats) (sym c.setting.view_is) (c.hear_parcel.ensures.heard (c.in_ok-hear_parcel.was ∙ ap Ok c.if-branch.true)) in
    let own = (heard_after c.nodes_keep.ensures.fits c.nodes_keep.ensures.hears s c.args.cut.now inside h.letter (drop 1 inside.box) c.hear_parcel.new.node served h.first (ap (λ (o : Outcome). o.node) h.heard)).slot in
    subst (HasSlot c.args.cut.now) (sym own) served.fresh.renews.slot

pub returns-then-branch : goal.returns-then-branch
returns-then-branch g c =
    let s : Setting = setting c.setting.inside.plan.now (faults_of c.setting.inside.script.now) (g.M.Placement.place c.setting.inside.map.now) (g.M.Placement.count c.setting.inside.map.now) in
    let inside : SlotState = record { node = c.self.inside.node; box = c.self.inside.inbox; back = c.self.inside.back; since = c.self.inside.since; seats = c.self.inside.seats; doing = c.self.inside.doing } in
    let served : Served s c.args.cut.now inside = subst (λ (t : Setting). Served t c.args.cut.now inside) (sym c.setting.view_is) (subst (Served c.args.setting.now c.args.cut.now) (sym c.self.view_is) c.requires.served) in
    let h : ParcelHeard s inside.box inside.node inside.seats c.hear_parcel.new.node c.hear_parcel.new.seats = subst (λ (t : Setting). ParcelHeard t inside.box inside.node inside.seats c.hear_parcel.new.node c.hear_parcel.new.seats) (sym c.setting.view_is) (c.hear_parcel.ensures.heard (c.in_ok-hear_parcel.was ∙ ap Ok c.if-branch.true)) in
    let own = (heard_after c.nodes_keep.ensures.fits c.nodes_keep.ensures.hears s c.args.cut.now inside h.letter (drop 1 inside.box) c.hear_parcel.new.node served h.first (ap (λ (o : Outcome). o.node) h.heard)).slot in
    let at = ap (stand c.args.cut.now) own in
    let with_out : List Sent → Acted = λ o. record { slot = c.tell_in.new.self; cut = c.args.cut.now; out = o } in
    ap with_out c.requires.empty
    ∙ heard_slot s c.args.cut.now inside h.letter (stand c.args.cut.now c.hear_parcel.new.node.slot) c.hear_parcel.new.node [] (reach_of inside.node.last.stamp h.letter) c.hear_parcel.new.seats served.fresh.renews.fits c.args.cut.now.round c.forget_first.new.self
    inside.back inside.since c.tell_in.new.self (h.first ∙ ap (λ (b : List Letter). h.letter ∷ b) (sym c.forget_first.ensures)) (sym (h.back inside.back)) (sym (h.since inside.since))
    refl at served.fresh.seats h.heard refl (h.marked (stand c.args.cut.now c.hear_parcel.new.node.slot).top) own c.tell_in.ensures
    ∙ ap (λ (y : SlotState). slot_heard s c.args.cut.now y y.box) c.self.view_is
    ∙ ap (λ (t : Setting). slot_heard t c.args.cut.now c.args.self.now c.args.self.now.box) c.setting.view_is

pub hear_letter-requires-clause-served : goal.hear_letter-requires-clause-served
hear_letter-requires-clause-served g c =
    let s : Setting = c.args.setting.now in
    let with_parts : NodeState → List Readiness → SlotState = λ n seats. record { node = n; box = c.self.inside.inbox; back = c.self.inside.back; since = c.self.inside.since; seats = seats; doing = c.self.inside.doing } in
    let stays = c.hear_parcel.ensures.stays (c.in_ok-hear_parcel.was ∙ ap Ok c.if-branch.false) in
    subst (Served s c.args.cut.now) (sym c.self.view_is ∙ sym (ap (with_parts c.hear_parcel.new.node) stays.1 ∙ ap (λ (n : NodeState). with_parts n c.self.inside.seats) stays.0)) c.requires.served
