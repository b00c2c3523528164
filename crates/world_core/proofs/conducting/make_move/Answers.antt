use Rattle.std.proofs.Common.{◌∙◌, ap, sym}
use Rattle.conductor_core.specs.declared.wants.CutAnswer.TheVariants as answers
use Rattle.conductor_core.specs.Conductors.{Heard, conductor_did}
use Rattle.iteration_agree.specs.Cuts.{agreement}
use Rattle.world_core.specs.Steps.{world_of}
use Rattle.world_core.specs.Worlds.{Setting, WorldState, conductor_made, did_in, in_cut}
use Rattle.world_core.proofs.conducting.make_move.Goals as goal

pub returns-in_ok-see-in-Look : goal.returns-in_ok-see-in-Look
returns-in_ok-see-in-Look g c = λ over.
    let s : Setting = c.args.setting.now in
    let w : WorldState = world_of c.args.posts.now c.args.cut.now c.args.conductor.now over in
    c.in_ok-see-in-Look.ensures over ∙ ap (conductor_made s w) (sym c.in-Look.is)

pub returns-in_ok-see-in-Note : goal.returns-in_ok-see-in-Note
returns-in_ok-see-in-Note g c = λ over.
    let s : Setting = c.args.setting.now in
    let w : WorldState = world_of c.args.posts.now c.args.cut.now c.args.conductor.now over in
    c.in_ok-see-in-Note.ensures over ∙ ap (conductor_made s w) (sym c.in-Note.is)

pub returns-in_ok-in_round-in-OpenRound : goal.returns-in_ok-in_round-in-OpenRound
returns-in_ok-in_round-in-OpenRound g c = λ over.
    let s : Setting = c.args.setting.now in
    let w : WorldState = world_of c.args.posts.now c.args.cut.now c.args.conductor.now over in
    let h : Heard = conductor_did s.plan s.place answers.Nothing w.conductor in
    c.in_ok-in_round-in-OpenRound.ensures c.args.cut.now over ∙ ap (λ k. did_in s h (in_cut s.plan k w)) c.open_round.ensures ∙ ap (conductor_made s w) (sym c.in-OpenRound.is)

pub returns-in_ok-in_round-in-Agree : goal.returns-in_ok-in_round-in-Agree
returns-in_ok-in_round-in-Agree g c = λ over.
    let s : Setting = c.args.setting.now in
    let w : WorldState = world_of c.args.posts.now c.args.cut.now c.args.conductor.now over in
    c.in_ok-in_round-in-Agree.ensures c.args.cut.now over
    ∙ ap (λ k. did_in s (conductor_did s.plan s.place (answers.Agreed k) w.conductor) (in_cut s.plan c.agree.new.self w)) c.agree.ensures.answer
    ∙ ap (λ k. did_in s (conductor_did s.plan s.place (answers.Agreed (agreement c.in-Agree.taking w.cut)) w.conductor) (in_cut s.plan k w)) c.agree.ensures.moved
    ∙ ap (conductor_made s w) (sym c.in-Agree.is)

pub returns-in_ok-in_round-in-Quiet : goal.returns-in_ok-in_round-in-Quiet
returns-in_ok-in_round-in-Quiet g c = λ over.
    let s : Setting = c.args.setting.now in
    let w : WorldState = world_of c.args.posts.now c.args.cut.now c.args.conductor.now over in
    let h : Heard = conductor_did s.plan s.place answers.Nothing w.conductor in
    c.in_ok-in_round-in-Quiet.ensures c.args.cut.now over ∙ ap (λ k. did_in s h (in_cut s.plan k w)) c.quiet.ensures ∙ ap (conductor_made s w) (sym c.in-Quiet.is)
