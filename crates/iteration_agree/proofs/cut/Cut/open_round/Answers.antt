use Rattle.std.proofs.Common.{sym, subst}
use Rattle.iteration_agree.specs.Rounds.{IsQuiet}
use Rattle.iteration_agree.specs.Cuts.{CutState}
use Rattle.iteration_agree.proofs.Holding.{open_closes}
use Rattle.iteration_agree.proofs.cut.Cut.open_round.Goals as goal

pub invariant_of-self : goal.invariant_of-self
invariant_of-self c =
    let inside : CutState = record { nodes = c.self.inside.nodes; round = c.self.inside.round; floor = c.self.inside.floor; taking = c.self.inside.taking; slots = c.self.inside.slots.items } in
    open_closes inside c.number.result c.args.floor (subst (λ (v : CutState). IsQuiet v.round) (sym c.self.view_is) c.requires.quiet) c.requires.few c.self.invariant c.number.ensures
