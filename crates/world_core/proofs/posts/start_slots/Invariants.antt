use Rattle.std.proofs.Common.{◌≡◌, ◌++◌}
use Rattle.world_core.specs.Worlds.{opening_slots}
use Rattle.world_core.proofs.posts.start_slots.Given as goal

abbrev pub invariant-loop-node : goal.invariant-loop-node
invariant-loop-node g l = l.slots.items ≡ l.fn.slots.items ++ opening_slots l.setting l.replica l.node
