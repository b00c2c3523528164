use Rattle.std.proofs.Common.{◌≡◌, drop}
use Rattle.iteration_agree.specs.Cuts.{greatest}
use Rattle.iteration_agree.proofs.cut.greatest.Given as goal

abbrev pub invariant-loop-slot : goal.invariant-loop-slot
invariant-loop-slot l = greatest l.greatest (drop l.slot-index l.slots) ≡ greatest l.floor l.slots
