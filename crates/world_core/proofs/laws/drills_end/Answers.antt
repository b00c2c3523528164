use Rattle.world_core.proofs.Sufficient.{drills_end, turns_suffice}
use Rattle.world_core.proofs.laws.drills_end.Goals as goal

pub returns-clause-turns : goal.returns-clause-turns
returns-clause-turns c = turns_suffice c.nodes_cost.ensures.start

pub returns-clause-drills : goal.returns-clause-drills
returns-clause-drills c = drills_end (turns_suffice c.nodes_cost.ensures.start) c.schedules_end.ensures.ends
