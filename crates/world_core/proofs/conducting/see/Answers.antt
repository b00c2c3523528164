use Rattle.std.proofs.Common.{◌∙◌, ap}
use Rattle.conductor_core.specs.declared.wants.CutAnswer.TheVariants as answers
use Rattle.conductor_core.specs.Conductors.{conductor_did}
use Rattle.iteration_agree.specs.Cuts.{CutState}
use Rattle.world_core.specs.Steps.{world_of}
use Rattle.world_core.specs.Worlds.{Setting, WorldState, did_in, sight_in}
use Rattle.world_core.proofs.conducting.see.Goals as goal

pub returns : goal.returns
returns g c = λ over.
    let s : Setting = c.args.setting.now in
    let before : CutState → WorldState = λ cut. world_of c.args.posts.now cut c.args.conductor.now over in
    c.in_ok-answered.ensures c.note-sight.new.self over
    ∙ ap (λ x. did_in s (conductor_did s.plan s.place (answers.Seen x) c.args.conductor.now) (before c.note-sight.new.self)) c.note-sight.ensures.sight
    ∙ ap (λ k. did_in s (conductor_did s.plan s.place (answers.Seen (sight_in c.args.cut.now c.args.slot)) c.args.conductor.now) (before k)) c.note-sight.ensures.moved
