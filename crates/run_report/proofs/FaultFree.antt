-- Reports that tell the fault-free run.
use Rattle.std.proofs.Common.{◌≡◌, List, [], ◌∷◌, ◌++◌, refl, ap, ◌∙◌}
use Rattle.chare_base.specs.declared.plan.Plan.{Plan}
use Rattle.chare_eval.specs.Fold.{fold}
use Rattle.pup_state.specs.Spelling.{pack}
use Rattle.fault_script.specs.declared.fault.FaultLine.{FaultLine}
use Rattle.fault_script.specs.Lines.{faults_of}
use Rattle.run_ledger.specs.declared.record.Record.{Record}
use Rattle.run_ledger.specs.declared.record.Record.TheVariants.{Accept, Differ, Crash, Mend, Adopt, Both, NoSpare, Lost, Done}
use Rattle.run_ledger.specs.Lines.{flips_where, is_based}
use Rattle.run_ledger.specs.Ledgers.{LedgerState, after, opening_ledger, strikes}
use Rattle.run_ledger.specs.Apart.{AllRight, RecordsAreRight, Right, StrongRecordsAreRight}
use Rattle.run_ledger.proofs.Fair.{Quiet, quiet_after, quiet_lineage}
use Rattle.checkpoint_store.specs.Marks.{mark_of}
use Rattle.run_report.specs.Lines.{accepted_line, adopted_line, first_line}
use Rattle.run_report.specs.Answers.{ending}
use Rattle.run_report.specs.Report.{plain_lines, plain_report, plain_told, record_lines, report, told}
use Rattle.run_report.specs.Laws.{ReportsAreFaultFree, ReportsAreRight, StrongReportsAreRight}

-- ---- records that are right

module _ (p : Plan) (script : List FaultLine) where
  right_lines : (l : LedgerState) (r : Record) → Right p l r → record_lines p script l r ≡ plain_lines p script l r
  right_lines l (Accept k) h = ap (λ bytes. accepted_line (mark_of k bytes) (strikes l 0 k) (strikes l 1 k)) h
  right_lines l (Differ k element) h = refl
  right_lines l (Crash line) h = refl
  right_lines l (Mend replica) h = refl
  right_lines l (Adopt k from) h = ap (λ bytes. adopted_line (mark_of k bytes) from (strikes l from k)) h
  right_lines l Both h = refl
  right_lines l NoSpare h = refl
  right_lines l (Lost node) h = refl
  right_lines l Done h = ap (ending p) h

  right_told : (l : LedgerState) (records : List Record) → AllRight p l records → told p script l records ≡ plain_told p script l records
  right_told l [] h = refl
  right_told l (r ∷ more) h =
      ap (λ lines. lines ++ told p script (after l r) more) (right_lines l r h.0) ∙ ap (λ lines. plain_lines p script l r ++ lines) (right_told (after l r) more h.1)

pub reports_right : RecordsAreRight → ReportsAreRight
unfolding report plain_report
reports_right right p script o records apart quiet lawful =
    ap (λ lines. first_line p o ++ lines) (right_told p script (opening_ledger (faults_of script) o p.iterations) records (right p (faults_of script) o records apart quiet lawful.steps))

pub strong_right : StrongRecordsAreRight → StrongReportsAreRight
unfolding report plain_report
strong_right right p script o records strong apart lawful =
    ap (λ lines. first_line p o ++ lines) (right_told p script (opening_ledger (faults_of script) o p.iterations) records (right p (faults_of script) o records strong apart lawful.steps))

-- ---- no fault to come

quiet_right : (p : Plan) (l : LedgerState) (r : Record) → Quiet l → Right p l r
quiet_right p l (Accept k) q = ap (λ fs. pack p k (fold p fs k)) (quiet_lineage l 0 q)
quiet_right p l (Differ k element) q = tt
quiet_right p l (Crash line) q = tt
quiet_right p l (Mend replica) q = tt
quiet_right p l (Adopt k from) q = ap (λ fs. pack p k (fold p fs k)) (quiet_lineage l from q)
quiet_right p l Both q = tt
quiet_right p l NoSpare q = tt
quiet_right p l (Lost node) q = tt
quiet_right p l Done q = ap (λ lines. fold p (flips_where is_based lines) p.iterations) q

quiet_all : (p : Plan) (l : LedgerState) (records : List Record) → Quiet l → AllRight p l records
quiet_all p l [] q = tt
quiet_all p l (r ∷ more) q = (quiet_right p l r q, quiet_all p (after l r) more (quiet_after l r q))

pub fault_free : ReportsAreFaultFree
unfolding report plain_report
fault_free p o records lawful =
    ap (λ lines. first_line p o ++ lines) (right_told p [] (opening_ledger [] o p.iterations) records (quiet_all p (opening_ledger [] o p.iterations) records refl))
