use Rattle.std.proofs.Common.{arith}
use Rattle.run_report.proofs.ends.put_done.Goals as goal

pub last_states-requires-clause-few : goal.last_states-requires-clause-few
last_states-requires-clause-few c =
    omega (arith, c.pieces_are_small.ensures.checkpoint c.args.plan.now c.args.last.now c.requires.done c.requires.all c.requires.is)
