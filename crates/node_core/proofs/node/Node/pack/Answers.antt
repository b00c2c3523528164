use Rattle.std.proofs.Common.{◌∙◌, ap}
use Rattle.fault_script.specs.Lines.{faults_of}
use Rattle.node_core.specs.Nodes.{NodeState, node_packed}
use Rattle.node_core.proofs.node.Node.pack.Goals as goal

pub returns-in-Ok-clause-ok : goal.returns-in-Ok-clause-ok
unfolding node_packed
returns-in-Ok-clause-ok c =
    c.in-Ok.ensures (faults_of c.args.script.now) c.self.inside.roster c.self.inside.over
    ∙ ap (λ (n : NodeState). node_packed c.args.plan.now (faults_of c.args.script.now) c.args.k n) c.self.view_is
