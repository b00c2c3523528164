use Rattle.node_core.proofs.Firsts.{each_runs, first_runs}
use Rattle.node_core.proofs.Lowering.{hears_lower, packs_lower, runs_lower, start_leaves}
use Rattle.node_core.proofs.laws.nodes_cost.Goals as goal

pub returns-clause-first : goal.returns-clause-first
returns-clause-first c = first_runs c.objects_follow.ensures c.ready_tells.ensures c.first_step_is_free.ensures

pub returns-clause-each : goal.returns-clause-each
returns-clause-each c = each_runs c.objects_follow.ensures c.ready_tells.ensures c.first_step_is_free.ensures

pub returns-clause-runs : goal.returns-clause-runs
returns-clause-runs c = runs_lower c.objects_follow.ensures c.ready_tells.ensures

pub returns-clause-packs : goal.returns-clause-packs
returns-clause-packs c = packs_lower

pub returns-clause-hears : goal.returns-clause-hears
returns-clause-hears c = hears_lower

pub returns-clause-start : goal.returns-clause-start
returns-clause-start c = start_leaves
