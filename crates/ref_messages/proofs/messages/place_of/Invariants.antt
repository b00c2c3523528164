use Rattle.std.proofs.Common.{◌≡◌, ◌+◌, drop}
use Rattle.std.specs.Prelude.{option_map}
use Rattle.ref_messages.specs.Places.{place_of}
use Rattle.ref_messages.proofs.messages.place_of.Given as goal

abbrev pub invariant-loop-i : goal.invariant-loop-i
invariant-loop-i l = option_map (λ k. l.i + k) (place_of l.key (drop l.i l.messages)) ≡ place_of l.key l.messages
