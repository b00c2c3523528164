use Rattle.std.proofs.Common.{◌≡◌, drop, None}
use Rattle.chare_base.specs.Total.{joined_to}
use Rattle.run_report.specs.Answers.{numbers_over}
use Rattle.run_report.proofs.totals.join_members.Given as goal

-- the elements that are left take the total so far to that of all
abbrev pub invariant-loop-cells : goal.invariant-loop-cells
invariant-loop-cells l = joined_to l.how l.total (numbers_over l.state (drop l.cells-index l.members)) ≡ joined_to l.how None (numbers_over l.state l.members)
