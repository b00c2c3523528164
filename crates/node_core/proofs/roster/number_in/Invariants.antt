use Rattle.std.proofs.Common.{◌≡◌, drop}
use Rattle.node_core.specs.Rosters.{number_in}
use Rattle.node_core.proofs.roster.number_in.Given as goal

abbrev pub invariant-loop-i : goal.invariant-loop-i
invariant-loop-i l = number_in l.i (drop l.i l.nodes) l.node ≡ number_in 0 l.nodes l.node
