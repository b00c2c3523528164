use Rattle.std.proofs.Common.{◌∙◌, List, None, ap}
use Rattle.fault_script.specs.Lines.{faults_of}
use Rattle.letter_post.specs.declared.letter.Letter.{Letter}
use Rattle.node_core.specs.Nodes.{NodeState}
use Rattle.world_core.specs.declared.doing.Since.TheVariants.{Nothing}
use Rattle.world_core.specs.Worlds.{Setting, SlotState, opening_slot}
use Rattle.world_core.proofs.SlotsActed.{start_roster, start_slot}
use Rattle.world_core.proofs.slot.Slot.start.Goals as goal

pub idle_doing-doing-requires-clause-roster : goal.idle_doing-doing-requires-clause-roster
idle_doing-doing-requires-clause-roster g c =
    ap (λ (n : NodeState). n.roster.iterations) c.in_ok-node.ensures ∙ start_roster c.setting.inside.plan.now (faults_of c.setting.inside.script.now) (g.M.Placement.place c.setting.inside.map.now) c.args.slot c.args.live

pub returns : goal.returns
returns g c =
    let with_box : List Letter → SlotState = λ b. record { node = c.in_ok-node.node; box = b; back = None; since = Nothing; seats = c.idle_doing-doing.new.seats; doing = c.idle_doing-doing.result } in
    ap with_box c.new.ensures
    ∙ start_slot c.setting.inside.plan.now (faults_of c.setting.inside.script.now) (g.M.Placement.place c.setting.inside.map.now) c.args.slot c.args.live c.args.cut.now c.round.result c.standing-standing.result c.in_ok-node.node
    c.idle_doing-doing.new.seats c.idle_doing-doing.result c.in_ok-node.ensures c.round.ensures.exact c.standing-standing.ensures (c.idle_doing-doing.ensures.stays ∙ c.in_ok-start_seats.ensures) c.idle_doing-doing.ensures.doing
    ∙ ap (λ (t : Setting). opening_slot t c.args.cut.now c.args.slot c.args.live) c.setting.view_is
