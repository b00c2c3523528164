-- Laws of reports.
use Rattle.std.specs.Prelude.{◌≡◌, List, []}
use Rattle.chare_base.specs.declared.options.Mode.TheVariants.{Strong}
use Rattle.chare_base.specs.declared.options.Options.{Options}
use Rattle.chare_base.specs.declared.plan.Plan.{Plan}
use Rattle.fault_script.specs.declared.fault.FaultLine.{FaultLine}
use Rattle.fault_script.specs.Lines.{faults_of}
use Rattle.run_ledger.specs.declared.record.Record.{Record}
use Rattle.run_ledger.specs.Ledgers.{opening_ledger}
use Rattle.run_ledger.specs.Lawful.{Lawful}
use Rattle.run_ledger.specs.Apart.{AllUnstruck, Apart}
use Rattle.run_report.specs.Report.{report, plain_report}

-- with no fault to come, a lawful run's report tells the fault-free run
abbrev pub ReportsAreFaultFree : Type 0
ReportsAreFaultFree = (p : Plan) (o : Options) (records : List Record) → Lawful p [] o records → report p [] o records ≡ plain_report p [] o records

-- Where no flips of the two replicas make equal checkpoints that are wrong, so does the report of a lawful run that adopts
-- from unstruck replicas alone.
abbrev pub ReportsAreRight : Type 0
ReportsAreRight = (p : Plan) (script : List FaultLine) (o : Options) (records : List Record) → Apart p (faults_of script) →
    AllUnstruck (opening_ledger (faults_of script) o p.iterations) records → Lawful p (faults_of script) o records → report p script o records ≡ plain_report p script o records

-- in strong mode nothing is adopted
abbrev pub StrongReportsAreRight : Type 0
StrongReportsAreRight = (p : Plan) (script : List FaultLine) (o : Options) (records : List Record) → o.mode ≡ Strong → Apart p (faults_of script) →
    Lawful p (faults_of script) o records → report p script o records ≡ plain_report p script o records
