use Rattle.std.proofs.Common.{◌≡◌, drop}
use Rattle.iteration_agree.specs.Cuts.{all_noted}
use Rattle.iteration_agree.proofs.cut.all_noted.Given as goal

abbrev pub invariant-loop-slot : goal.invariant-loop-slot
invariant-loop-slot l = all_noted l.taking (drop l.slot-index l.slots) ≡ all_noted l.taking l.slots
