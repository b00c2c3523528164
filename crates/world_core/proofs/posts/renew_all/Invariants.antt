use Rattle.std.proofs.Common.{◌≡◌}
use Rattle.world_core.specs.Worlds.{again}
use Rattle.world_core.proofs.Renewing.{renewed_to}
use Rattle.world_core.proofs.posts.renew_all.Given as goal

abbrev pub invariant-loop-i : goal.invariant-loop-i
invariant-loop-i l = l.slots.items ≡ renewed_to (again l.fn.plan l.fn.cut) l.i l.fn.slots.items
