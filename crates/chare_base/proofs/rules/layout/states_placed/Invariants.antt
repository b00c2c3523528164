use Rattle.std.proofs.Common.{◌≡◌, drop}
use Rattle.chare_base.specs.Layout.{placed_from}
use Rattle.chare_base.proofs.rules.layout.states_placed.Given as goal

abbrev pub invariant-loop-state : goal.invariant-loop-state
invariant-loop-state l = placed_from l.next (drop l.state-index l.states) ≡ placed_from 0 l.states
