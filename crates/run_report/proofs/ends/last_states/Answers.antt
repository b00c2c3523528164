use Rattle.run_report.proofs.Sides.{states_few}
use Rattle.run_report.proofs.ends.last_states.Goals as goal

pub returns-in-Ok-clause-few : goal.returns-in-Ok-clause-few
returns-in-Ok-clause-few c = states_few c.args.plan.now c.in-Ok.image.all c.in-Ok.ensures.shaped
