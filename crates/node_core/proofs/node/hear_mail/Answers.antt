use Rattle.std.proofs.Common.{ap}
use Rattle.node_core.specs.Nodes.{node_from, with_heard}
use Rattle.node_core.proofs.node.hear_mail.Goals as goal

pub returns-in_ok-out-in-Some : goal.returns-in_ok-out-in-Some
returns-in_ok-out-in-Some c =
    λ script place over. rw c.in-Some.is (ap (with_heard (node_from c.args.slot c.args.last c.args.roster.now over c.args.body.now)) (c.in_ok-out-in-Some.ensures script place))
