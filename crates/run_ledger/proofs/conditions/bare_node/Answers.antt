use Rattle.std.proofs.Common.{sym, ◌∙◌}
use Rattle.run_ledger.specs.Conditions.{bare_from}
use Rattle.run_ledger.proofs.Bare.{bare_next}
use Rattle.run_ledger.proofs.conditions.bare_node.Goals as goal

pub loop-node-preserved : goal.loop-node-preserved
loop-node-preserved c =
    bare_next c.args.first.now c.args.second.now c.loop-node.node c.args.nodes (bare_from c.args.first.now c.args.second.now 0 c.args.nodes) c.loop-node-test.true (sym c.has_copy.ensures ∙ c.if-not-has_copy.false) c.loop-node.invariant
