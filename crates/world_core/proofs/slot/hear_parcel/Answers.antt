use Rattle.std.proofs.Common.{drop, ap, sym, subst}
use Rattle.fault_script.specs.Lines.{faults_of}
use Rattle.letter_post.specs.declared.letter.Letter.{Letter}
use Rattle.node_core.specs.Keeps.{Fitted}
use Rattle.node_core.specs.Nodes.{Outcome, node_heard}
use Rattle.world_core.specs.Steps.{FitsAfter, setting}
use Rattle.world_core.specs.Worlds.{Setting}
use Rattle.world_core.proofs.slot.hear_parcel.Goals as goal

pub wake-requires : goal.wake-requires
wake-requires g c =
    let s : Setting = setting c.setting.inside.plan.now (faults_of c.setting.inside.script.now) (g.M.Placement.place c.setting.inside.map.now) (g.M.Placement.count c.setting.inside.map.now) in
    let heard = ap (λ (o : Outcome). o.node) (c.in_ok-hear_parcel-in-Some-Parcel.ensures.ok s.plan s.script s.place) in
    subst (Fitted s.plan) (sym heard)
    (subst (λ (l : Letter). Fitted s.plan (node_heard s.plan s.script s.place l c.args.node.now).node) c.in-Some-Parcel.field-0-is
    (subst (λ (t : Setting). FitsAfter t c.in-Some-Parcel.field-0.now c.args.node.now) (sym c.setting.view_is) (c.requires.fits c.in-Some-Parcel.field-0.now (drop 1 c.args.inbox.now) c.in-Some-Parcel.ensures)))
