use Rattle.world_core.proofs.Happening.{event_afloat}
use Rattle.world_core.proofs.Reached.{every_world_afloat, never_still}
use Rattle.world_core.proofs.laws.worlds_stay_afloat.Goals as goal

pub returns-clause-event : goal.returns-clause-event
returns-clause-event c = event_afloat c.nodes_move.ensures.runs c.nodes_move.ensures.packs c.nodes_move.ensures.hears c.moves_fit_the_round.ensures.fit c.agreement_is_exact.ensures.greatest c.equal_exactly.ensures c.worlds_are_sound.ensures.event

pub returns-clause-all : goal.returns-clause-all
returns-clause-all c =
    let floats = event_afloat c.nodes_move.ensures.runs c.nodes_move.ensures.packs c.nodes_move.ensures.hears c.moves_fit_the_round.ensures.fit c.agreement_is_exact.ensures.greatest c.equal_exactly.ensures c.worlds_are_sound.ensures.event in
    every_world_afloat c.worlds_are_sound.ensures.start c.worlds_start_afloat.ensures c.worlds_are_sound.ensures.event floats

pub returns-clause-still : goal.returns-clause-still
returns-clause-still c =
    let floats = event_afloat c.nodes_move.ensures.runs c.nodes_move.ensures.packs c.nodes_move.ensures.hears c.moves_fit_the_round.ensures.fit c.agreement_is_exact.ensures.greatest c.equal_exactly.ensures c.worlds_are_sound.ensures.event in
    never_still c.worlds_are_sound.ensures.all (every_world_afloat c.worlds_are_sound.ensures.start c.worlds_start_afloat.ensures c.worlds_are_sound.ensures.event floats) c.no_standstill.ensures
