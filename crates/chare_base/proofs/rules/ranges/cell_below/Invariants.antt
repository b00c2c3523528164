use Rattle.std.proofs.Common.{◌≡◌, drop}
use Rattle.std.specs.Prelude.{nat_lt}
use Rattle.chare_base.specs.Sizes.{cells_in}
use Rattle.chare_base.proofs.rules.ranges.cell_below.Given as goal

abbrev pub invariant-loop-state : goal.invariant-loop-state
invariant-loop-state l = nat_lt l.left (cells_in (drop l.state-index l.states)) ≡ nat_lt l.cell (cells_in l.states)
