use Rattle.chare_base.proofs.Facts.{iterations_some, iterations_few}
use Rattle.chare_base.proofs.plan.Plan.iterations.Goals as goal

pub returns-clause-some : goal.returns-clause-some
returns-clause-some c = iterations_some c.args.self.now

pub returns-clause-few : goal.returns-clause-few
returns-clause-few c = iterations_few c.args.self.now
