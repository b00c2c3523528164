-- The report of a run.
use Rattle.std.specs.Prelude.{ℕ, List, [], ◌∷◌, ◌++◌, codes, slice_get, Option, Some, None}
use Rattle.chare_base.specs.declared.cells.Cells.{Cells}
use Rattle.chare_base.specs.declared.options.Options.{Options}
use Rattle.chare_base.specs.declared.plan.Plan.{Plan}
use Rattle.chare_eval.specs.Fold.{plain}
use Rattle.pup_state.specs.Spelling.{pack}
use Rattle.fault_script.specs.declared.fault.Fault.{Fault}
use Rattle.fault_script.specs.declared.fault.Fault.TheVariants as faults
use Rattle.fault_script.specs.declared.fault.FaultLine.{FaultLine}
use Rattle.fault_script.specs.Lines.{faults_of}
use Rattle.run_ledger.specs.declared.record.Record.{Record}
use Rattle.run_ledger.specs.declared.record.Record.TheVariants.{Accept, Differ, Crash, Mend, Adopt, Both, NoSpare, Lost, Done}
use Rattle.run_ledger.specs.Ledgers.{LedgerState, after, opening_ledger, strikes}
use Rattle.run_ledger.specs.Lawful.{checkpoint}
use Rattle.checkpoint_store.specs.Marks.{mark_of}
use Rattle.conductor_core.specs.Endings.{last_states}
use Rattle.run_report.specs.Lines.{accepted_line, adopted_line, both_line, crash_line, differ_line, first_line, lost_line, mend_line, no_spare_line, plain_head}
use Rattle.run_report.specs.Answers.{ending, results}

-- ---- one record

-- a crash by a line of the script; a lawful one names a crash line
abbrev pub crash_text : ℕ → Fault → List ℕ
crash_text line (faults.Flip replica element cell mask at) = []
crash_text line (faults.Crash slot at) = crash_line slot line

abbrev pub crash_by : Option FaultLine → List ℕ
crash_by None = []
crash_by (Some line) = crash_text line.line line.fault

module _ (p : Plan) (script : List FaultLine) where
  -- what a record tells, in the ledger before it
  abbrev pub record_lines : LedgerState → Record → List ℕ
  record_lines l (Accept k) = accepted_line (mark_of k (checkpoint p l 0 k)) (strikes l 0 k) (strikes l 1 k)
  record_lines l (Differ k element) = differ_line p k element.0 l.base
  record_lines l (Crash line) = crash_by (slice_get script line)
  record_lines l (Mend replica) = mend_line replica l.base
  record_lines l (Adopt k from) = adopted_line (mark_of k (checkpoint p l from k)) from (strikes l from k)
  record_lines l Both = both_line l.base
  record_lines l NoSpare = no_spare_line
  record_lines l (Lost node) = lost_line node
  record_lines l Done = ending p (last_states p l)

  abbrev pub told : LedgerState → List Record → List ℕ
  told l [] = []
  told l (r ∷ more) = record_lines l r ++ told (after l r) more

-- ---- all of them

-- the report of a plan under a fault script, where these records were made
unfoldable pub report : Plan → List FaultLine → Options → List Record → List ℕ
report p script o records = first_line p o ++ told p script (opening_ledger (faults_of script) o p.iterations) records

-- the text of a plain run that ends in these states
unfoldable pub plain_text : Plan → List Cells → List ℕ
plain_text p all = plain_head p ++ (results p all ++ codes "end plain\n")

-- ---- the fault-free run

-- What a record tells where each checkpoint that becomes the base is that of the fault-free run, and the states at the
-- end are its states.
abbrev pub plain_lines : Plan → List FaultLine → LedgerState → Record → List ℕ
plain_lines p script l (Accept k) = accepted_line (mark_of k (pack p k (plain p k))) (strikes l 0 k) (strikes l 1 k)
plain_lines p script l (Differ k element) = record_lines p script l (Differ k element)
plain_lines p script l (Crash line) = record_lines p script l (Crash line)
plain_lines p script l (Mend replica) = record_lines p script l (Mend replica)
plain_lines p script l (Adopt k from) = adopted_line (mark_of k (pack p k (plain p k))) from (strikes l from k)
plain_lines p script l Both = record_lines p script l Both
plain_lines p script l NoSpare = record_lines p script l NoSpare
plain_lines p script l (Lost node) = record_lines p script l (Lost node)
plain_lines p script l Done = ending p (plain p p.iterations)

abbrev pub plain_told : Plan → List FaultLine → LedgerState → List Record → List ℕ
plain_told p script l [] = []
plain_told p script l (r ∷ more) = plain_lines p script l r ++ plain_told p script (after l r) more

-- the same report, told of the fault-free run
unfoldable pub plain_report : Plan → List FaultLine → Options → List Record → List ℕ
plain_report p script o records = first_line p o ++ plain_told p script (opening_ledger (faults_of script) o p.iterations) records
