use Rattle.run_report.proofs.FaultFree.{fault_free}
use Rattle.run_report.proofs.laws.reports_are_fault_free.Goals as goal

pub returns : goal.returns
returns c = fault_free
