use Rattle.std.proofs.Common.{◌≡◌, ◌+◌, ◌≤◌, ◌-◌, length}
use Rattle.std.specs.Io.KnownBytes.{Consumes}
use Rattle.outside_io.proofs.edge.read_up_to.Given as goal

abbrev pub invariant-takes : goal.invariant-takes
invariant-takes g l = record {
  took : Consumes (g.S.Source.left l.fn.source) (g.S.Source.left l.source) l.all;
  bound : length l.all ≤ l.limit;
  takes : g.S.Source.takes l.source ≤ g.S.Source.takes l.fn.source + length l.all;
  count : g.S.Source.faults l.fn.source ≤ g.S.Source.faults l.source;
  room : length l.buf ≡ 4096;
}

abbrev pub decreases-takes : goal.decreases-takes
decreases-takes g l = l.limit - length l.all
