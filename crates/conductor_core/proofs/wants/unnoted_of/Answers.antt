use Rattle.std.proofs.Common.{sym, ◌∙◌}
use Rattle.conductor_core.specs.Moves.{unnoted_from}
use Rattle.conductor_core.proofs.Notes.{noted_next}
use Rattle.conductor_core.proofs.wants.unnoted_of.Goals as goal

pub loop-node-preserved : goal.loop-node-preserved
loop-node-preserved c =
    noted_next c.args.noted.now c.args.nodes c.args.replica c.loop-node.node (unnoted_from c.args.noted.now c.args.nodes c.args.replica 0 c.args.nodes) c.loop-node-test.true
    (sym c.is_noted.ensures ∙ c.if-not-is_noted.false) c.loop-node.invariant
