use Rattle.std.proofs.Common.{◌≡◌, ◌-◌, length}
use Rattle.buddy_compare.specs.Comparing.{walked}
use Rattle.buddy_compare.proofs.compare.first_difference.Given as goal

-- what is left tells what the whole does
abbrev pub invariant-loop : goal.invariant-loop
invariant-loop l = walked l.plan (length l.a - l.counter) l.left l.other ≡ walked l.plan (length l.a) l.a l.b
