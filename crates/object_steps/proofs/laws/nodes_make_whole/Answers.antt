use Rattle.object_steps.proofs.Nodes.{nodes_make_whole}
use Rattle.object_steps.proofs.laws.nodes_make_whole.Goals as goal

pub returns : goal.returns
returns c = nodes_make_whole
