use Rattle.node_core.proofs.Loaded.{record_is, record_within}
use Rattle.node_core.proofs.loading.object_in.Goals as goal

pub returns-in-Ok-clause-exact : goal.returns-in-Ok-clause-exact
returns-in-Ok-clause-exact c =
    record_is c.args.plan.now c.args.e.0 c.in-Ok.unpacked.done c.in-Ok.unpacked.next c.in-Ok.unpacked.cells c.args.bytes.now c.in-Ok.ensures.ok c.args.k c.object_at.result c.requires.element c.object_at.ensures.exact

pub returns-in-Ok-clause-long : goal.returns-in-Ok-clause-long
returns-in-Ok-clause-long c =
    record_within c.args.plan.now c.args.e.0 c.in-Ok.unpacked.done c.in-Ok.unpacked.next c.in-Ok.unpacked.cells c.args.bytes.now c.in-Ok.ensures.ok c.object_at.result
