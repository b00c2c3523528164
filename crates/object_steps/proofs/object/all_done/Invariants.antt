use Rattle.std.proofs.Common.{◌≡◌}
use Rattle.object_steps.specs.Objects.{all_done}
use Rattle.object_steps.proofs.object.all_done.Given as goal

abbrev pub invariant-loop-i : goal.invariant-loop-i
invariant-loop-i l = l.all ≡ all_done l.parts l.i
