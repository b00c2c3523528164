use Rattle.std.proofs.Common.{arith, rules}
use Rattle.outside_io.specs.Parts.{AppendsPart}
use Rattle.outside_io.proofs.Pieces.{gave_more, gave_part, at_err}
use Rattle.outside_io.proofs.edge.write_all.Goals as goal

pub returns-in_err-n-clause-part : goal.returns-in_err-n-clause-part
returns-in_err-n-clause-part g c =
    at_err c.from_residual.result (AppendsPart (g.K.Sink.given c.args.sink.now) (g.K.Sink.given c.give.new.self) c.args.bytes.now)
    (gave_part (g.K.Sink.given c.args.sink.now) (g.K.Sink.given c.pieces.sink) (g.K.Sink.given c.give.new.self) c.args.bytes.now c.pieces.rest.now (search rules) c.pieces.invariant.gave c.in_err-n.ensures.err)

pub pieces-preserved : goal.pieces-preserved
pieces-preserved g c = record {
  gave = gave_more (g.K.Sink.given c.args.sink.now) (g.K.Sink.given c.pieces.sink) (g.K.Sink.given c.give.new.self) c.args.bytes.now c.pieces.rest.now c.split_at.result.1.now c.in_ok-n.n
      c.pieces.invariant.gave c.in_ok-n.ensures.ok c.split_at.ensures.back;
  count = omega (arith, c.in_ok-n.ensures.count);
}
