use Rattle.std.proofs.Common.{◌≡◌, ◌++◌, drop}
use Rattle.chare_base.specs.Placing.{members, members_from}
use Rattle.node_core.proofs.loading.members.Given as goal

abbrev pub invariant-loop-e : goal.invariant-loop-e
invariant-loop-e g l = l.all.items ++ members_from l.e (drop l.e (g.M.Placement.place l.map)) l.node ≡ members (g.M.Placement.place l.map) l.node
