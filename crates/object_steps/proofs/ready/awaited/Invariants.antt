use Rattle.std.proofs.Common.{◌≡◌, drop}
use Rattle.object_steps.specs.Objects.{awaited_from}
use Rattle.object_steps.proofs.ready.awaited.Given as goal

abbrev pub invariant-loop-i : goal.invariant-loop-i
invariant-loop-i l = awaited_from l.entry.0 l.done l.i (drop l.i l.parts) ≡ awaited_from l.entry.0 l.done 0 l.parts
