use Rattle.std.proofs.Common.{◌≡◌, ◌+◌, drop}
use Rattle.chare_base.specs.Sizes.{cells_in}
use Rattle.chare_base.proofs.elements.cells_in.Given as goal

abbrev pub invariant-loop-state : goal.invariant-loop-state
invariant-loop-state l = l.cells + cells_in (drop l.state-index l.states) ≡ cells_in l.states
