use Rattle.object_steps.proofs.Along.{objects_follow}
use Rattle.object_steps.proofs.laws.objects_follow.Goals as goal

pub returns : goal.returns
returns c = objects_follow c.keys_are_told.ensures c.fold_is_shaped.ensures c.strikes_are_local.ensures c.steps_follow.ensures c.parts_run_in_any_order.ensures
