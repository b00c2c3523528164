use Rattle.std.proofs.Common.{◌≡◌, ◌++◌, ◌-◌}
use Rattle.world_core.specs.Worlds.{ready_from}
use Rattle.world_core.proofs.drill.find_ready.Given as goal

abbrev pub invariant-loop-i : goal.invariant-loop-i
invariant-loop-i g l = l.ready.items ++ ready_from l.plan (g.M.Placement.count l.map) l.world l.i (l.actors - l.i) ≡ l.fn.ready.items ++ ready_from l.plan (g.M.Placement.count l.map) l.world 0 l.actors
