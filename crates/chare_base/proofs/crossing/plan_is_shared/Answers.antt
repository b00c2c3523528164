use Rattle.chare_base.proofs.Sharing.{crossing}
use Rattle.chare_base.proofs.crossing.plan_is_shared.Goals as goal

pub shares-requires-sync-T : goal.shares-requires-sync-T
shares-requires-sync-T c κs = search crossing
