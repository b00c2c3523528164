use Rattle.node_core.proofs.Hearing.{hears_keep}
use Rattle.node_core.proofs.Keeping.{keeps_fits, packs_keep, runs_keep, turns_keep}
use Rattle.node_core.proofs.Obeying.{orders_rest}
use Rattle.node_core.proofs.Starting.{starts_keep}
use Rattle.node_core.proofs.laws.nodes_keep.Goals as goal

pub returns-clause-starts : goal.returns-clause-starts
returns-clause-starts c = starts_keep c.objects_follow.ensures

pub returns-clause-runs : goal.returns-clause-runs
returns-clause-runs c = runs_keep c.objects_follow.ensures c.element_stays.ensures

pub returns-clause-turns : goal.returns-clause-turns
returns-clause-turns c = turns_keep c.objects_follow.ensures c.element_stays.ensures

pub returns-clause-packs : goal.returns-clause-packs
returns-clause-packs c = packs_keep

pub returns-clause-hears : goal.returns-clause-hears
returns-clause-hears c = hears_keep c.objects_follow.ensures c.totals_are_true.ensures c.nodes_make_whole.ensures c.earlier_flips_decide.ensures c.later_flips_decide.ensures.inside c.pieces_load.ensures.back

pub returns-clause-orders : goal.returns-clause-orders
returns-clause-orders c = orders_rest c.objects_follow.ensures c.earlier_flips_decide.ensures c.later_flips_decide.ensures.inside c.pieces_load.ensures.back

pub returns-clause-fits : goal.returns-clause-fits
returns-clause-fits c = keeps_fits
