use Rattle.std.proofs.Common.{◌≡◌}
use Rattle.node_core.specs.Rosters.{shares}
use Rattle.node_core.proofs.Seats.{shares_from}
use Rattle.node_core.proofs.roster.shares.Given as goal

abbrev pub invariant-loop-e : goal.invariant-loop-e
invariant-loop-e g l = shares_from l.plan (g.M.Placement.place l.map) l.array l.node l.e ≡ shares l.plan (g.M.Placement.place l.map) l.array l.node
