use Rattle.std.proofs.Common.{◌∙◌, ap, sym, subst}
use Rattle.fault_script.specs.Lines.{faults_of}
use Rattle.iteration_agree.specs.declared.round.Standing.{Standing}
use Rattle.node_core.specs.Nodes.{Answer, node_ran, out_of, outcome_of, turn_with}
use Rattle.world_core.specs.Sound.{Served}
use Rattle.world_core.specs.Steps.{setting}
use Rattle.world_core.specs.Worlds.{Setting, SlotState, slot_ran, stand}
use Rattle.world_core.proofs.Slots.{ran_after}
use Rattle.world_core.proofs.SlotsActed.{not_some, ran_seats, ran_slot}
use Rattle.world_core.proofs.slot.Slot.run.Goals as goal

pub tell-requires-clause-seats : goal.tell-requires-clause-seats
tell-requires-clause-seats g c =
    let s : Setting = setting c.setting.inside.plan.now (faults_of c.setting.inside.script.now) (g.M.Placement.place c.setting.inside.map.now) (g.M.Placement.count c.setting.inside.map.now) in
    let inside : SlotState = record { node = c.self.inside.node; box = c.self.inside.inbox; back = c.self.inside.back; since = c.self.inside.since; seats = c.self.inside.seats; doing = c.self.inside.doing } in
    let served : Served s c.args.cut.now inside = subst (λ (t : Setting). Served t c.args.cut.now inside) (sym c.setting.view_is) (subst (Served c.args.setting.now c.args.cut.now) (sym c.self.view_is) c.requires.served) in
    let at = c.standing-standing.ensures ∙ ap (stand c.args.cut.now) c.slot.ensures in
    ran_seats s c.args.cut.now inside c.args.e c.standing-standing.result c.run_into.new.self (turn_with c.in_ok-run_into.field-0 c.run_into.new.out) c.mark.new.seats at served.fresh.seats c.in_ok-run_into.ensures.ok c.mark.ensures

pub returns : goal.returns
returns g c =
    let s : Setting = setting c.setting.inside.plan.now (faults_of c.setting.inside.script.now) (g.M.Placement.place c.setting.inside.map.now) (g.M.Placement.count c.setting.inside.map.now) in
    let inside : SlotState = record { node = c.self.inside.node; box = c.self.inside.inbox; back = c.self.inside.back; since = c.self.inside.since; seats = c.self.inside.seats; doing = c.self.inside.doing } in
    let served : Served s c.args.cut.now inside = subst (λ (t : Setting). Served t c.args.cut.now inside) (sym c.setting.view_is) (subst (Served c.args.setting.now c.args.cut.now) (sym c.self.view_is) c.requires.served) in
    let at = c.standing-standing.ensures ∙ ap (stand c.args.cut.now) c.slot.ensures in
    let free = not_some inside.back (sym c.is_some.ensures ∙ c.if-is_some.false) in
    let after = ap (λ (a : Answer). a.node) c.in_ok-run_into.ensures.ok ∙ ap (λ (u : Standing). (outcome_of (node_ran s.plan s.script s.place u.top c.args.e.0 inside.node)).node) at in
    let own = (ran_after c.nodes_keep.ensures.fits c.nodes_keep.ensures.runs s c.args.cut.now inside c.args.e.0 c.run_into.new.self served after).slot in
    ran_slot s c.args.cut.now inside c.args.e c.standing-standing.result c.run_into.new.self (turn_with c.in_ok-run_into.field-0 c.run_into.new.out) c.mark.new.seats c.round.result c.run_into.new.out c.tell.new.self
    free c.round.ensures.exact at served.fresh.seats c.in_ok-run_into.ensures.ok c.mark.ensures own (c.in_ok-run_into.ensures.sent ∙ sym (ap (λ (a : Answer). out_of a.turn) c.in_ok-run_into.ensures.ok)) c.tell.ensures
    ∙ ap (slot_ran s c.args.cut.now c.args.e) c.self.view_is
    ∙ ap (λ (t : Setting). slot_ran t c.args.cut.now c.args.e c.args.self.now) c.setting.view_is
