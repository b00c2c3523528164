use Rattle.std.proofs.Common.{◌≡◌, drop, None}
use Rattle.object_steps.specs.Objects.{arrived_at, ready_from}
use Rattle.object_steps.proofs.ready.chosen.Given as goal

abbrev pub invariant-loop-i : goal.invariant-loop-i
invariant-loop-i l =
    ready_from (arrived_at l.plan l.at.element.0 l.at.iteration l.at.mail.now) l.step l.done l.i l.missing (drop l.i l.parts)
    ≡ ready_from (arrived_at l.plan l.at.element.0 l.at.iteration l.at.mail.now) l.step l.done 0 None l.parts
