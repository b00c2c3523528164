use Rattle.top_call.proofs.Plans.{is_report}
use Rattle.top_call.proofs.drill.run.Goals as goal

pub returns-in_ok-report-in-Ok : goal.returns-in_ok-report-in-Ok
returns-in_ok-report-in-Ok c = (
  c.requires.few,
  is_report c.reports_are_fault_free.ensures c.reports_are_right.ensures.strong c.agreed_waits.ensures.drills c.args.plan.now c.args.script.now c.args.options.now c.args.schedule c.in_ok-report-in-Ok.field-0
      c.in-Ok.ending.records.items c.requires.some c.requires.few c.requires.bounded c.requires.strong c.in-Ok.ensures.records c.in-Ok.ensures.lawful.lawful c.in_ok-report-in-Ok.ensures,
)
