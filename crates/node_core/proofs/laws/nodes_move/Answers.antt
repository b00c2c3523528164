use Rattle.node_core.proofs.Complete.{shares_are_sent, totals_are_sent}
use Rattle.node_core.proofs.Moving.{runs_move, turns_move}
use Rattle.node_core.proofs.Packed.{hears_move, packs_move}
use Rattle.node_core.proofs.laws.nodes_move.Goals as goal

pub returns-clause-runs : goal.returns-clause-runs
returns-clause-runs c = runs_move c.objects_follow.ensures c.element_stays.ensures c.ready_tells.ensures c.sends_are_declared.ensures

pub returns-clause-turns : goal.returns-clause-turns
returns-clause-turns c = turns_move c.objects_follow.ensures c.element_stays.ensures c.ready_tells.ensures c.sends_are_declared.ensures

pub returns-clause-packs : goal.returns-clause-packs
returns-clause-packs c = packs_move

pub returns-clause-hears : goal.returns-clause-hears
returns-clause-hears c = hears_move

pub returns-clause-shares : goal.returns-clause-shares
returns-clause-shares c = shares_are_sent

pub returns-clause-totals : goal.returns-clause-totals
returns-clause-totals c = totals_are_sent
