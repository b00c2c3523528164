use Rattle.std.proofs.Common.{◌≡◌, drop}
use Rattle.std.specs.Prelude.{◌&&◌}
use Rattle.chare_base.specs.Ranges.{arrays_in_range}
use Rattle.chare_base.proofs.rules.ranges.arrays_in_range.Given as goal

-- what holds so far, and of what is left
abbrev pub invariant-loop-number : goal.invariant-loop-number
invariant-loop-number l =
    (l.holds && arrays_in_range l.entries l.reductions l.number (drop l.number l.arrays)) ≡ arrays_in_range l.entries l.reductions 0 l.arrays
