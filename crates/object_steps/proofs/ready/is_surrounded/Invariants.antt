use Rattle.std.proofs.Common.{◌≡◌, drop}
use Rattle.object_steps.specs.Objects.{sent_from}
use Rattle.object_steps.proofs.ready.is_surrounded.Given as goal

abbrev pub invariant-loop-i : goal.invariant-loop-i
invariant-loop-i l = sent_from l.plan l.e.0 l.i (drop l.i l.plan.entries) ≡ sent_from l.plan l.e.0 0 l.plan.entries
