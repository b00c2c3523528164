use Rattle.std.proofs.Common.{◌≡◌, drop}
use Rattle.std.specs.Prelude.{nat_le}
use Rattle.chare_base.specs.Sizes.{cells_in}
use Rattle.chare_base.proofs.rules.sizes.cells_fit.Given as goal

abbrev pub invariant-loop-state : goal.invariant-loop-state
invariant-loop-state l = nat_le (cells_in (drop l.state-index l.states)) l.left ≡ nat_le (cells_in l.states) 4096
