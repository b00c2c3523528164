use Rattle.std.proofs.Common.{◌≡◌, ◌∙◌, ◌-◌, ◌+◌, suc, length, ap, sym, subst}
use Rattle.std.specs.List.{AllByRecursion}
use Rattle.chare_base.specs.Elements.{elements}
use Rattle.chare_base.specs.Placing.{Covers}
use Rattle.world_core.specs.Sound.{IsPlaced, Sound}
use Rattle.world_core.specs.Steps.{Fresh}
use Rattle.world_core.specs.Worlds.{Setting, WorldState, chosen_of, goes_on, happens, picked, reached, ready_from, with_event}
use Rattle.world_core.proofs.Picks.{picked_next, picked_none}
use Rattle.world_core.proofs.Drilling.{all_fresh, for_options}
use Rattle.world_core.proofs.drill.go.Goals as goal

pub returns-in_default-clause-reached : goal.returns-in_default-clause-reached
returns-in_default-clause-reached g c =
    let s : Setting = c.args.setting.now in
    let w : WorldState = c.loop-left.world in
    let asked = c.in_ok-next.ensures ∙ ap (λ (t : Setting). with_event t.plan t.nodes w (chosen_of c.loop-left.chooser (ready_from t.plan t.nodes w 0 (suc (t.nodes + t.nodes))))) c.setting.view_is in
    sym (picked_none s c.loop-left.chooser w c.loop-left.left (sym asked ∙ c.in_default.is)) ∙ c.loop-left.invariant.told

pub loop-left-preserved : goal.loop-left-preserved
loop-left-preserved g c =
    let s : Setting = c.args.setting.now in
    let w : WorldState = c.loop-left.world in
    let asked = c.in_ok-next.ensures ∙ ap (λ (t : Setting). with_event t.plan t.nodes w (chosen_of c.loop-left.chooser (ready_from t.plan t.nodes w 0 (suc (t.nodes + t.nodes))))) c.setting.view_is in
    let placed : IsPlaced s = record {
      count = subst (λ (t : Setting). length t.place ≡ elements t.plan) c.setting.view_is c.setting.inside.placed;
      covers = subst (λ (t : Setting). Covers t.place t.nodes) c.setting.view_is c.nodes.ensures.covers;
    } in
    let next : c.happen.new.self ≡ happens s w c.in-Some.event = c.in_ok-happen.ensures.happens in
    record {
      told =
          ap (λ r. reached s c.happen.new.self (picked s (c.loop-left.left - 1) r c.happen.new.self)) c.goes_on-chooser.ensures
          ∙ ap (λ v. reached s v (picked s (c.loop-left.left - 1) (goes_on c.loop-left.chooser c.in-Some.i) v)) next
          ∙ sym (picked_next s c.loop-left.chooser w c.loop-left.left c.in-Some.i c.in-Some.event c.loop-left-test.true (sym asked ∙ c.in-Some.is))
          ∙ c.loop-left.invariant.told;
      sound =
          let P : WorldState → Type 0 = λ v. Sound s c.args.options.now v in
          subst P (sym next) (c.worlds_are_sound.ensures.event s c.args.options.now w c.in-Some.event placed (for_options s c.args.options.now c.requires.nodes c.requires.bounded) c.loop-left.invariant.sound);
      empty = c.in_ok-happen.ensures.empty;
    }

pub next_event-requires : goal.next_event-requires
next_event-requires g c =
    let s : Setting = c.args.setting.now in
    let w : WorldState = c.loop-left.world in
    subst (λ (t : Setting). AllByRecursion (Fresh t.plan w.cut) w.posts.slots) (sym c.setting.view_is)
    (all_fresh s w (c.sound_worlds_serve.ensures s c.args.options.now w (for_options s c.args.options.now c.requires.nodes c.requires.bounded) c.loop-left.invariant.sound))

pub happen-requires-clause-serves : goal.happen-requires-clause-serves
happen-requires-clause-serves g c =
    let s : Setting = c.args.setting.now in
    c.sound_worlds_serve.ensures s c.args.options.now c.loop-left.world (for_options s c.args.options.now c.requires.nodes c.requires.bounded) c.loop-left.invariant.sound
