use Rattle.std.proofs.Common.{◌<◌, sym, subst}
use Rattle.iteration_agree.specs.Rounds.{last_round, number}
use Rattle.iteration_agree.specs.Cuts.{CutState}
use Rattle.iteration_agree.proofs.Holding.{quiet_closes}
use Rattle.iteration_agree.proofs.cut.Cut.quiet.Goals as goal

pub invariant_of-self : goal.invariant_of-self
invariant_of-self c =
    let inside : CutState = record { nodes = c.self.inside.nodes; round = c.self.inside.round; floor = c.self.inside.floor; taking = c.self.inside.taking; slots = c.self.inside.slots.items } in
    quiet_closes inside c.number.result c.forget.new.slots.items (subst (λ (v : CutState). number v.round < last_round) (sym c.self.view_is) c.requires.few) c.self.invariant c.number.ensures c.forget.ensures
