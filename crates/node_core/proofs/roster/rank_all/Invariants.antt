use Rattle.std.proofs.Common.{◌≡◌, length}
use Rattle.node_core.proofs.Ranking.{Told}
use Rattle.node_core.proofs.roster.rank_all.Given as goal

abbrev pub invariant-loop-e : goal.invariant-loop-e
invariant-loop-e g l = record {
  told : Told l.plan (g.M.Placement.place l.map) l.node l.e l.ranks.items l.counts.items;
  count : length l.counts.items ≡ length l.plan.arrays;
}
