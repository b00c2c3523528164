use Rattle.std.proofs.Common.{◌≡◌, ◌≤◌, ◌++◌, drop}
use Rattle.node_core.specs.Rosters.{seats_from}
use Rattle.node_core.proofs.roster.seat_all.Given as goal

abbrev pub invariant-loop-e : goal.invariant-loop-e
invariant-loop-e g l = record {
  told : l.seats.items ++ seats_from l.next (drop l.e (g.M.Placement.place l.map)) l.node ≡ seats_from 0 (g.M.Placement.place l.map) l.node;
  few : l.next ≤ l.e;
}
