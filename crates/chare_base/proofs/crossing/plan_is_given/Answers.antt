use Rattle.chare_base.proofs.Sharing.{crossing}
use Rattle.chare_base.proofs.crossing.plan_is_given.Goals as goal

pub gives-requires-send-T : goal.gives-requires-send-T
gives-requires-send-T c κs = search crossing
