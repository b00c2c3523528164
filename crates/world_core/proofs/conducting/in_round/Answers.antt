use Rattle.std.proofs.Common.{◌∙◌, ap}
use Rattle.conductor_core.specs.Conductors.{conductor_did}
use Rattle.world_core.specs.Steps.{world_of}
use Rattle.world_core.specs.Worlds.{Posts, Setting, did_in}
use Rattle.world_core.proofs.conducting.in_round.Goals as goal

pub returns : goal.returns
returns g c = λ before over.
    let s : Setting = c.args.setting.now in
    c.in_ok-answered.ensures c.args.cut.now over ∙ ap (λ (posts : Posts). did_in s (conductor_did s.plan s.place c.args.answer c.args.conductor.now) (world_of posts c.args.cut.now c.args.conductor.now over)) c.in_ok-renew.ensures
