use Rattle.chare_base.proofs.Facts.{array_found}
use Rattle.chare_base.proofs.plan.Plan.array_at.Goals as goal

pub returns : goal.returns
returns c =
    array_found c.args.self.now c.args.e.0 c.as_slice.result.now c.args.place c.index-as_slice-place.result c.as_slice.ensures c.requires.place c.requires.element c.index-as_slice-place.is
