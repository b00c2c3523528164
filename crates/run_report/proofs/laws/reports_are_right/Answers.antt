use Rattle.run_report.proofs.FaultFree.{reports_right, strong_right}
use Rattle.run_report.proofs.laws.reports_are_right.Goals as goal

pub returns-clause-all : goal.returns-clause-all
returns-clause-all c = reports_right c.records_are_right.ensures.all

pub returns-clause-strong : goal.returns-clause-strong
returns-clause-strong c = strong_right c.records_are_right.ensures.strong
