use Rattle.world_core.proofs.Waiting.{drills_wait, every_world_waits}
use Rattle.world_core.proofs.laws.agreed_waits.Goals as goal

pub returns-clause-worlds : goal.returns-clause-worlds
returns-clause-worlds c = every_world_waits c.worlds_are_sound.ensures.all c.agreed_is_not_begun.ensures.tops

pub returns-clause-drills : goal.returns-clause-drills
returns-clause-drills c = drills_wait (every_world_waits c.worlds_are_sound.ensures.all c.agreed_is_not_begun.ensures.tops)
