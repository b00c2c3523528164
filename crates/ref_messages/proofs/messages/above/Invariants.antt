use Rattle.std.proofs.Common.{◌≡◌, ◌+◌, drop}
use Rattle.std.specs.Prelude.{option_map}
use Rattle.ref_messages.specs.Places.{above}
use Rattle.ref_messages.proofs.messages.above.Given as goal

abbrev pub invariant-loop-i : goal.invariant-loop-i
invariant-loop-i l = option_map (λ k. l.i + k) (above l.key (drop l.i l.messages)) ≡ above l.key l.messages
