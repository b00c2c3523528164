use Rattle.std.proofs.Common.{◌≡◌, subst}
use Rattle.std.specs.Prelude.{OnOk}
use Rattle.world_core.specs.Steps.{world_of}
use Rattle.world_core.specs.Worlds.{Setting, WorldState, by_slot, does, slot_at}
use Rattle.world_core.proofs.world.World.slot_acts.Goals as goal

pub returns-clause-acted : goal.returns-clause-acted
returns-clause-acted g c =
    let s : Setting = c.args.setting.now in
    let after : WorldState = world_of c.act.new.self c.act.new.cut c.self.inside.conductor c.self.inside.over in
    let P : WorldState → Type 0 = λ w. OnOk c.act.result (after ≡ by_slot s c.args.slot w (does s w.cut c.args.doing) (slot_at s.nodes w.posts.slots c.args.slot)) in
    subst P c.self.view_is (c.act.ensures.acted c.self.inside.conductor c.self.inside.over)
