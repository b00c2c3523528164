use Rattle.std.proofs.Common.{◌≡◌}
use Rattle.checkpoint_store.specs.Assembled.{zeros}
use Rattle.checkpoint_store.proofs.assemble.no_bytes_taken.Given as goal

abbrev pub invariant-loop-node : goal.invariant-loop-node
invariant-loop-node l = l.ends.items ≡ zeros l.node
