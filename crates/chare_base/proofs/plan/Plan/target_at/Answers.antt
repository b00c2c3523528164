use Rattle.chare_base.proofs.Neighbours.{target_within}
use Rattle.chare_base.proofs.plan.Plan.target_at.Goals as goal

pub returns-clause-element : goal.returns-clause-element
returns-clause-element c =
    target_within c.args.self.now c.args.entry.0 c.entry-entry.result.now c.entry-entry.ensures c.as_slice.result.now c.args.index c.target_in.result c.as_slice.ensures c.target_in.ensures
