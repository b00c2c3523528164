use Rattle.std.proofs.Common.{drop}
use Rattle.run_report.specs.Report.{told}
use Rattle.run_report.proofs.Telling.{Telling}
use Rattle.run_report.proofs.report.put_records.Given as goal
use Rattle.std.proofs.Common.{◌++◌}

-- what the records that are left tell goes behind what was told
abbrev pub invariant-loop-record : goal.invariant-loop-record
invariant-loop-record l =
    Telling l.plan l.script l.ledger.ledger (drop l.record-index l.records) l.marks l.last l.out (l.fn.out ++ told l.plan l.script l.fn.ledger.ledger l.records)
