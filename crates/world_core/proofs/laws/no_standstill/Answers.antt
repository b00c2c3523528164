use Rattle.world_core.proofs.Ending.{no_standstill}
use Rattle.world_core.proofs.laws.no_standstill.Goals as goal

pub returns : goal.returns
returns c = no_standstill c.waits.ensures c.ready_tells.ensures c.nodes_move.ensures.shares c.nodes_move.ensures.totals c.moves_fit_the_round.ensures.fit
