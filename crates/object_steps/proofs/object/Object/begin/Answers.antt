use Rattle.std.proofs.Common.{◌≡◌, ◌<◌, None, sym, subst}
use Rattle.object_steps.specs.Objects.{Progress, Fits}
use Rattle.object_steps.proofs.Kept.{begun_fits}
use Rattle.object_steps.proofs.object.Object.begin.Goals as goal

pub returns-clause-fits : goal.returns-clause-fits
returns-clause-fits c =
    let inside : Progress = record { element = c.self.inside.element; place = c.self.inside.place; surrounded = c.self.inside.surrounded; cells = c.self.inside.cells; done = c.self.inside.done; step = c.self.inside.step; parts = c.self.inside.parts; mail = c.self.inside.mail } in
    λ p fits more.
    let F : Progress → Type 0 = λ o. Fits p o in
    let D : Progress → Type 0 = λ o. o.done < p.iterations in
    let S : Progress → Type 0 = λ o. o.step ≡ None in
    begun_fits p inside (subst F (sym c.self.view_is) fits) (subst S (sym c.self.view_is) c.requires) (subst D (sym c.self.view_is) more)
