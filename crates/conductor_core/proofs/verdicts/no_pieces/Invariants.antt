use Rattle.std.proofs.Common.{◌≡◌}
use Rattle.conductor_core.specs.Verdicts.{no_pieces}
use Rattle.conductor_core.proofs.verdicts.no_pieces.Given as goal

abbrev pub invariant-loop-node : goal.invariant-loop-node
invariant-loop-node l = l.pieces ≡ no_pieces l.node
