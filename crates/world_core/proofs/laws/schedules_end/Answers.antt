use Rattle.world_core.proofs.Ended.{event_lowers, schedule_ends}
use Rattle.world_core.proofs.laws.schedules_end.Goals as goal

pub returns-clause-lower : goal.returns-clause-lower
returns-clause-lower c =
    event_lowers c.nodes_cost.ensures.first c.nodes_cost.ensures.runs c.nodes_move.ensures.runs c.nodes_cost.ensures.hears c.nodes_move.ensures.hears c.nodes_cost.ensures.packs c.nodes_move.ensures.packs c.moves_fit_the_round.ensures.fit c.agreement_is_exact.ensures.missing
    c.equal_exactly.ensures

pub returns-clause-ends : goal.returns-clause-ends
returns-clause-ends c =
    let lower =
    event_lowers c.nodes_cost.ensures.first c.nodes_cost.ensures.runs c.nodes_move.ensures.runs c.nodes_cost.ensures.hears c.nodes_move.ensures.hears c.nodes_cost.ensures.packs c.nodes_move.ensures.packs c.moves_fit_the_round.ensures.fit c.agreement_is_exact.ensures.missing
    c.equal_exactly.ensures in
    schedule_ends c.worlds_are_sound.ensures.start c.worlds_start_afloat.ensures c.worlds_are_sound.ensures.event c.worlds_stay_afloat.ensures.event c.no_standstill.ensures lower
