use Rattle.std.proofs.Common.{◌≡◌, rules, arith, sym, subst}
use Rattle.object_steps.specs.Objects.{Progress, Fits, advanced}
use Rattle.object_steps.specs.Turns.{Goes}
use Rattle.object_steps.proofs.Turns.{goes}
use Rattle.object_steps.proofs.Kept.{advanced_fits, few_done, part_below, part_few}
use Rattle.object_steps.proofs.object.Object.advance.Goals as goal

pub part_at-found-requires-clause-step : goal.part_at-found-requires-clause-step
part_at-found-requires-clause-step c =
    let inside : Progress = record { element = c.self.inside.element; place = c.self.inside.place; surrounded = c.self.inside.surrounded; cells = c.self.inside.cells; done = c.self.inside.done; step = c.self.inside.step; parts = c.self.inside.parts; mail = c.self.inside.mail } in
    let P : Progress → Type 0 = λ o. Goes c.args.plan.now o c.args.spot in
    let g : P inside = subst P (sym c.self.view_is) (goes c.args.plan.now c.args.self.now c.args.spot c.requires.fits c.requires.ready) in
    g.underway.step

pub part_at-found-requires-clause-part : goal.part_at-found-requires-clause-part
part_at-found-requires-clause-part c =
    let inside : Progress = record { element = c.self.inside.element; place = c.self.inside.place; surrounded = c.self.inside.surrounded; cells = c.self.inside.cells; done = c.self.inside.done; step = c.self.inside.step; parts = c.self.inside.parts; mail = c.self.inside.mail } in
    let P : Progress → Type 0 = λ o. Goes c.args.plan.now o c.args.spot in
    let g : P inside = subst P (sym c.self.view_is) (goes c.args.plan.now c.args.self.now c.args.spot c.requires.fits c.requires.ready) in
    part_below c.args.plan.now inside c.args.spot g

pub bounds-self-inside-spot : goal.bounds-self-inside-spot
bounds-self-inside-spot c = part_few c.args.plan.now c.args.self.now c.args.spot (goes c.args.plan.now c.args.self.now c.args.spot c.requires.fits c.requires.ready)

pub go_on-requires-clause-done : goal.go_on-requires-clause-done
go_on-requires-clause-done c =
    let inside : Progress = record { element = c.self.inside.element; place = c.self.inside.place; surrounded = c.self.inside.surrounded; cells = c.self.inside.cells; done = c.self.inside.done; step = c.self.inside.step; parts = c.self.inside.parts; mail = c.self.inside.mail } in
    let P : Progress → Type 0 = λ o. Goes c.args.plan.now o c.args.spot in
    let g : P inside = subst P (sym c.self.view_is) (goes c.args.plan.now c.args.self.now c.args.spot c.requires.fits c.requires.ready) in
    few_done c.args.plan.now inside c.args.spot g

pub go_on-requires-clause-step : goal.go_on-requires-clause-step
go_on-requires-clause-step c =
    let inside : Progress = record { element = c.self.inside.element; place = c.self.inside.place; surrounded = c.self.inside.surrounded; cells = c.self.inside.cells; done = c.self.inside.done; step = c.self.inside.step; parts = c.self.inside.parts; mail = c.self.inside.mail } in
    let P : Progress → Type 0 = λ o. Goes c.args.plan.now o c.args.spot in
    let g : P inside = subst P (sym c.self.view_is) (goes c.args.plan.now c.args.self.now c.args.spot c.requires.fits c.requires.ready) in
    omega (arith, g.underway.step, c.part_at-found.ensures.steps)

pub returns-clause-fits : goal.returns-clause-fits
unfolding advanced
returns-clause-fits c =
    let is : c.go_on.new.self ≡ advanced c.args.plan.now c.args.self.now c.args.spot = search rules in
    let P : Progress → Type 0 = λ o. Fits c.args.plan.now o in
    subst P (sym is) (advanced_fits c.args.plan.now c.args.self.now c.args.spot c.requires.fits (goes c.args.plan.now c.args.self.now c.args.spot c.requires.fits c.requires.ready))
