use Rattle.std.proofs.Common.{◌≤◌, length}
use Rattle.outside_io.proofs.Pieces.{Gave}
use Rattle.outside_io.proofs.edge.write_all.Given as goal

abbrev pub invariant-pieces : goal.invariant-pieces
invariant-pieces g l = record {
  gave : Gave (g.K.Sink.given l.fn.sink) (g.K.Sink.given l.sink) l.bytes l.rest;
  count : g.K.Sink.faults l.fn.sink ≤ g.K.Sink.faults l.sink;
}

abbrev pub decreases-pieces : goal.decreases-pieces
decreases-pieces g l = length l.rest
