use Rattle.std.proofs.Common.{◌≡◌, drop}
use Rattle.node_core.specs.Gatherings.{gathering_at}
use Rattle.node_core.proofs.tallies.find.Given as goal

abbrev pub invariant-loop-i : goal.invariant-loop-i
invariant-loop-i l = gathering_at l.reduction l.iteration l.i (drop l.i l.all) ≡ gathering_at l.reduction l.iteration 0 l.all
