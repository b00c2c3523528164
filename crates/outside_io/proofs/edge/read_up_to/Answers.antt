use Rattle.std.proofs.Common.{arith, ◌-◌}
use Rattle.outside_io.specs.Parts.{ConsumesPart}
use Rattle.outside_io.proofs.Pieces.{took_part, at_err}
use Rattle.outside_io.proofs.edge.read_up_to.Goals as goal

pub returns-in_err-n-clause-part : goal.returns-in_err-n-clause-part
returns-in_err-n-clause-part g c =
    at_err c.from_residual.result (ConsumesPart (g.S.Source.left c.args.source.now) (g.S.Source.left c.take_some.new.source) c.args.limit)
    (took_part (g.S.Source.left c.args.source.now) (g.S.Source.left c.takes.source) (g.S.Source.left c.take_some.new.source) c.takes.all c.args.limit (c.args.limit - c.len-in-takes.result)
    (omega (arith, c.takes.invariant.bound, c.len-in-takes.ensures)) c.takes.invariant.took c.in_err-n.ensures.part)
