use Rattle.std.proofs.Common.{◌≡◌, ap, cond, sym, ◌∙◌, refl, subst, false, Some, None}
use Rattle.iteration_agree.specs.Rounds.{IsGather}
use Rattle.iteration_agree.specs.Cuts.{CutState, agreement, all_noted, greatest}
use Rattle.iteration_agree.specs.Laws.{IsGreatest}
use Rattle.iteration_agree.specs.Under.{IsCut}
use Rattle.iteration_agree.proofs.Following.{agrees_unless, is_greatest}
use Rattle.iteration_agree.proofs.Holding.{agree_closes}
use Rattle.iteration_agree.proofs.cut.Cut.agree.Goals as goal

pub invariant_of-self : goal.invariant_of-self
invariant_of-self c =
    let inside : CutState = record { nodes = c.self.inside.nodes; round = c.self.inside.round; floor = c.self.inside.floor; taking = c.self.inside.taking; slots = c.self.inside.slots.items } in
    agree_closes inside c.args.taking c.number.result c.greatest-k.result (subst (λ (v : CutState). IsGather v.round) (sym c.self.view_is) c.requires.gather) c.self.invariant
    (ap (λ s. all_noted c.args.taking s) (sym c.as_slice.ensures.value) ∙ sym c.all_noted.ensures ∙ c.if-all_noted.true) c.number.ensures
    (c.greatest-k.ensures ∙ ap (λ s. greatest c.self.inside.floor s) c.as_slice-then-all_noted.ensures.value)

pub returns-then-all_noted-clause-greatest : goal.returns-then-all_noted-clause-greatest
returns-then-all_noted-clause-greatest c =
    let inside : CutState = record { nodes = c.self.inside.nodes; round = c.self.inside.round; floor = c.self.inside.floor; taking = c.self.inside.taking; slots = c.self.inside.slots.items } in
    let most : c.greatest-k.result ≡ greatest inside.floor inside.slots = c.greatest-k.ensures ∙ ap (λ s. greatest c.self.inside.floor s) c.as_slice-then-all_noted.ensures.value in
    subst (λ (v : CutState). IsGreatest c.greatest-k.result v) c.self.view_is (subst (λ k. IsGreatest k inside) (sym most) (is_greatest inside c.self.invariant))

pub returns-else-all_noted-clause-missing : goal.returns-else-all_noted-clause-missing
returns-else-all_noted-clause-missing c =
    let cut : IsCut c.args.self.now = subst (λ (v : CutState). IsCut v) c.self.view_is c.self.invariant in
    let some : all_noted c.args.taking c.args.self.now.slots ≡ false =
    ap (λ (v : CutState). all_noted c.args.taking v.slots) (sym c.self.view_is) ∙ ap (λ s. all_noted c.args.taking s) (sym c.as_slice.ensures.value) ∙ sym c.all_noted.ensures ∙ c.if-all_noted.false in
    let none : agreement c.args.taking c.args.self.now ≡ None = ap (λ b. cond b (Some (greatest c.args.self.now.floor c.args.self.now.slots)) None) some in
    (λ _. (agrees_unless c.args.self.now c.args.taking cut).0 none, λ _. refl)
