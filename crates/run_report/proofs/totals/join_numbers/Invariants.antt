use Rattle.std.proofs.Common.{◌≡◌, drop}
use Rattle.chare_base.specs.Total.{joined_to}
use Rattle.run_report.proofs.totals.join_numbers.Given as goal

-- the numbers that are left take the total so far to that of all
abbrev pub invariant-loop-number : goal.invariant-loop-number
invariant-loop-number l = joined_to l.how l.total (drop l.number-index l.numbers) ≡ joined_to l.how l.fn.first l.numbers
