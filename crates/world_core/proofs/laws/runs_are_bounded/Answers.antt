use Rattle.world_core.proofs.Possible.{each_lowers, no_longer}
use Rattle.world_core.proofs.Sufficient.{starts_within}
use Rattle.world_core.proofs.laws.runs_are_bounded.Goals as goal

pub returns-clause-lower : goal.returns-clause-lower
returns-clause-lower c =
    each_lowers c.nodes_cost.ensures.first c.nodes_cost.ensures.each c.nodes_cost.ensures.runs c.nodes_move.ensures.runs c.nodes_cost.ensures.hears c.nodes_move.ensures.hears c.nodes_cost.ensures.packs c.nodes_move.ensures.packs
    c.moves_fit_the_round.ensures.fit c.agreement_is_exact.ensures.missing c.equal_exactly.ensures

pub returns-clause-longest : goal.returns-clause-longest
returns-clause-longest c =
    let lower =
    each_lowers c.nodes_cost.ensures.first c.nodes_cost.ensures.each c.nodes_cost.ensures.runs c.nodes_move.ensures.runs c.nodes_cost.ensures.hears c.nodes_move.ensures.hears c.nodes_cost.ensures.packs c.nodes_move.ensures.packs
    c.moves_fit_the_round.ensures.fit c.agreement_is_exact.ensures.missing c.equal_exactly.ensures in
    no_longer c.worlds_are_sound.ensures.start c.worlds_start_afloat.ensures c.worlds_are_sound.ensures.event c.worlds_stay_afloat.ensures.event lower (starts_within c.nodes_cost.ensures.start)
