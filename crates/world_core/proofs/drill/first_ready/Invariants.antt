use Rattle.std.proofs.Common.{◌≡◌, ◌-◌}
use Rattle.std.specs.Prelude.{slice_get}
use Rattle.world_core.specs.Worlds.{ready_from}
use Rattle.world_core.proofs.drill.first_ready.Given as goal

abbrev pub invariant-loop-i : goal.invariant-loop-i
invariant-loop-i g l =
    slice_get (ready_from l.plan (g.M.Placement.count l.map) l.world l.i (l.actors - l.i)) 0 ≡ slice_get (ready_from l.plan (g.M.Placement.count l.map) l.world l.fn.from (l.actors - l.fn.from)) 0
