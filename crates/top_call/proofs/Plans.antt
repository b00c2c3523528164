-- What an input is owed, by its tree and its plan.
use Rattle.std.proofs.Common.{◌≡◌, ℕ, true, false, List, [], ◌∷◌, ap, sym, refl, ◌∙◌, subst, codes, length, ◌≤◌, Some, Result, Ok, Err, IfOk, inl, inr}
use Rattle.chare_base.specs.declared.memory.Memory.{Memory}
use Rattle.chare_base.specs.declared.plan.Plan.{Plan}
use Rattle.chare_base.specs.Elements.{elements}
use Rattle.job_rules.specs.declared.fault.CheckFault.{CheckFault}
use Rattle.job_rules.specs.declared.fault.CheckFault.TheVariants as checks
use Rattle.job_rules.specs.Accepted.{IsPlan, IsRefused, RefusedHasNone}
use Rattle.job_rules.specs.Checked.{Checks, first_fault, plan_of}
use Rattle.job_rules.specs.Faults.{place_of}
use Rattle.job_rules.specs.Codes.{fault_code, parse_code, parse_place}
use Rattle.chare_checker.specs.Wording.{wording}
use Rattle.job_tree.specs.declared.fault.ParseFault.{ParseFault}
use Rattle.job_tree.specs.declared.fault.ParseFault.TheVariants as parses
use Rattle.job_tree.specs.declared.tree.Job.{Job as Tree}
use Rattle.job_tree.specs.Text.{ReadsAs, ReadsAsNone, TextFault}
use Rattle.run_ledger.specs.declared.record.Record.{Record}
use Rattle.run_ledger.specs.Lawful.{Lawful}
use Rattle.chare_base.specs.declared.options.Mode.TheVariants.{Strong}
use Rattle.chare_base.specs.declared.options.Options.{Options}
use Rattle.world_core.specs.Drills.{DrillsWait, drilled}
use Rattle.fault_script.specs.declared.fault.FaultLine.{FaultLine}
use Rattle.fault_script.specs.declared.reading.ScriptFault.{ScriptFault}
use Rattle.fault_script.specs.declared.reading.ScriptFault.TheVariants as script_faults
use Rattle.fault_script.specs.Lines.{faults_of}
use Rattle.fault_script.specs.Reading.{IsScript, Reads, script_of}
use Rattle.fault_script.specs.Wording.{word_told}
use Rattle.run_report.specs.Laws.{ReportsAreFaultFree, StrongReportsAreRight}
use Rattle.run_report.specs.Report.{plain_report, report}
use Rattle.top_call.specs.declared.answer.Answer.{Answer}
use Rattle.top_call.specs.declared.status.Status.{Status}
use Rattle.top_call.specs.declared.status.Status.TheVariants as statuses
use Rattle.top_call.specs.Due.{DueDrill, DueJob, DueRun, DueTexts, IsReport, has_crash, job_line, script_line}
use Rattle.top_call.specs.Split.{job_text, script_text}

-- a text that the grammar refuses
pub not_read : (input : List ℕ) (f : ParseFault) (at code : ℕ) → TextFault input f → ((f ≡ parses.Memory → ⊥) → ReadsAsNone input) →
    at ≡ parse_place f → code ≡ parse_code f → (code ≡ 0 → ⊥) → IsRefused input at code
not_read input f at code told none placed coded word =
    let real : f ≡ parses.Memory → ⊥ = λ is. word (coded ∙ ap parse_code is) in
    inl (record { fault = f; none = none real; told = told; real = real; placed = placed; coded = coded })

first : (text : List ℕ) (job : Tree) (f : CheckFault) → Checks text job (Err f) → (f ≡ checks.Memory → ⊥) → first_fault text job ≡ Some f
first text job (checks.Twice at) h r = h
first text job (checks.Unknown at) h r = h
first text job (checks.Kind at) h r = h
first text job (checks.Shape at) h r = h
first text job (checks.NotOnce entry at) h r = h
first text job (checks.TooEarly entry at) h r = h
first text job (checks.Overlap name at) h r = h
first text job (checks.Bound at) h r = h
first text job (checks.Limit which value at) h r = h
first text job checks.Memory h r = absurd (r refl)

-- a text whose tree breaks a rule
pub broken : (input text : List ℕ) (job : Tree) (f : CheckFault) (at code : ℕ) → text ≡ input → ReadsAs input job → Checks text job (Err f) →
    at ≡ place_of f → code ≡ fault_code f → (code ≡ 0 → ⊥) → IsRefused input at code
broken input text job f at code same reads answered placed coded word =
    let real : f ≡ checks.Memory → ⊥ = λ is. word (coded ∙ ap fault_code is) in
    inr (record { job = job; fault = f; reads = reads; first = ap (λ t. first_fault t job) (sym same) ∙ first text job f answered real; placed = placed; coded = coded })

-- a text with its tree and its plan
pub is_plan : (input text : List ℕ) (job : Tree) (p : Plan) → text ≡ input → ReadsAs input job → Checks text job (Ok p) → IsPlan input p
is_plan input text job p same reads answered = record {
  job = job;
  reads = reads;
  sound = ap (λ t. first_fault t job) (sym same) ∙ answered.0;
  plans = answered.1 ∙ ap (λ t. plan_of t job) same;
}

-- ---- reports

free : ReportsAreFaultFree → (p : Plan) (script : List FaultLine) (o : Options) (records : List Record) → script ≡ [] → Lawful p (faults_of script) o records → report p script o records ≡ plain_report p script o records
free fault_free p [] o records none lawful = fault_free p o records lawful
free fault_free p (line ∷ more) o records none lawful = cc

-- a report of a lawful ending
pub is_report : ReportsAreFaultFree → StrongReportsAreRight → DrillsWait → (p : Plan) (script : List FaultLine) (o : Options) (schedule : ℕ) (text : List ℕ) (records : List Record) → 1 ≤ o.nodes → o.nodes ≤ elements p →
    o.nodes ≤ 32 → o.mode ≡ Strong →
    records ≡ (drilled p script o schedule).conductor.records → Lawful p (faults_of script) o records → text ≡ report p script o records → IsReport p script o schedule text
is_report fault_free right waits p script o schedule text records some few bounded strong reached lawful is = record {
  records = records;
  reached = reached;
  lawful = lawful;
  reports = is;
  right = λ apart. is ∙ right p script o records strong apart lawful;
  fault_free = λ none. is ∙ free fault_free p script o records none lawful;
  waits = λ turns. waits p (faults_of script) o schedule turns some few bounded;
}

-- ---- scripts

-- the answer to a text that is no script
pub no_script : (o : Options) (schedule : ℕ) (p : Plan) (script : List ℕ) (f : ScriptFault) → Reads (script_of p o.nodes script) (Err f) → (r : Result Answer Memory) →
    IfOk r (λ a. a.status ≡ statuses.Script) → IfOk r (λ a. a.text ≡ script_line f) → IfOk r (λ a. word_told f ≡ [] → ⊥) → IfOk r (λ a. DueJob o schedule p script a.status a.text)
no_script o schedule p script f reads (Ok a) status text real =
    subst (λ (s : Status). DueJob o schedule p script s a.text) (sym status) (inl (f, is f reads real, text))
  where
    is : (f : ScriptFault) → Reads (script_of p o.nodes script) (Err f) → (word_told f ≡ [] → ⊥) → script_of p o.nodes script ≡ Err f
    is (script_faults.Lines line) reads real = reads
    is (script_faults.Form line) reads real = reads
    is (script_faults.NoSuch line) reads real = reads
    is (script_faults.Range line) reads real = reads
    is script_faults.Memory reads real = absurd (real refl)
no_script o schedule p script f reads (Err e) status text real = tt

-- the answer to a script with a crash line
pub unbuilt : (o : Options) (schedule : ℕ) (p : Plan) (script : List ℕ) (lines : List FaultLine) → IsScript p o.nodes script lines → has_crash lines ≡ true → (r : Result Answer Memory) →
    IfOk r (λ a. a.status ≡ statuses.Script) → IfOk r (λ a. a.text ≡ codes "unbuilt\n") → IfOk r (λ a. DueJob o schedule p script a.status a.text)
unbuilt o schedule p script lines is crash (Ok a) status text = subst (λ (s : Status). DueJob o schedule p script s a.text) (sym status) (inr (lines, is, crash, text))
unbuilt o schedule p script lines is crash (Err e) status text = tt

-- the answer to a script without one, by what is due to its run
pub due_script : (o : Options) (schedule : ℕ) (p : Plan) (script : List ℕ) (lines : List FaultLine) → IsScript p o.nodes script lines → has_crash lines ≡ false → (r : Result Answer Memory) →
    IfOk r (λ a. DueRun o schedule p lines a.status a.text) → IfOk r (λ a. DueJob o schedule p script a.status a.text)
due_script o schedule p script lines is none (Ok a) due = by a.status due
  where
    by : (s : Status) → DueRun o schedule p lines s a.text → DueJob o schedule p script s a.text
    by statuses.Done due = (lines, is, none, due)
    by statuses.Still due = (lines, is, none, due)
    by statuses.Usage due = (lines, is, none, due)
    by statuses.Script due = absurd due
    by statuses.Job due = absurd due
    by statuses.Long due = absurd due
    by statuses.Read due = absurd due
    by statuses.Write due = absurd due
    by statuses.Memory due = absurd due
due_script o schedule p script lines is none (Err e) due = tt

-- ---- the two texts

-- the answer to a text that is no job
pub due_job : RefusedHasNone → (o : Options) (schedule : ℕ) (job script : List ℕ) (at code : ℕ) → ((code ≡ 0 → ⊥) → IsRefused job at code) → (r : Result Answer Memory) →
    IfOk r (λ a. a.status ≡ statuses.Job) → IfOk r (λ a. a.text ≡ job_line (wording job at code)) → IfOk r (λ a. code ≡ 0 → ⊥) → IfOk r (λ a. DueTexts o schedule job script a.status a.text)
due_job none o schedule job script at code refused (Ok a) status text word =
    subst (λ (s : Status). DueTexts o schedule job script s a.text) (sym status) (none job at code (refused word), (at, code, refused word, text))
due_job none o schedule job script at code refused (Err e) status text word = tt

-- the answer to a job, by what is due to its plan
pub due_plan : (o : Options) (schedule : ℕ) (job script : List ℕ) (p : Plan) → IsPlan job p → (r : Result Answer Memory) →
    IfOk r (λ a. DueJob o schedule p script a.status a.text) → IfOk r (λ a. DueTexts o schedule job script a.status a.text)
due_plan o schedule job script p is (Ok a) due = by a.status due
  where
    by : (s : Status) → DueJob o schedule p script s a.text → DueTexts o schedule job script s a.text
    by statuses.Done due = (p, is, due)
    by statuses.Still due = (p, is, due)
    by statuses.Usage due = (p, is, due)
    by statuses.Script due = (p, is, due)
    by statuses.Job (lines, reads, kept, due) = absurd due
    by statuses.Long due = (p, is, due)
    by statuses.Read due = (p, is, due)
    by statuses.Write due = (p, is, due)
    by statuses.Memory due = (p, is, due)
due_plan o schedule job script p is (Err e) due = tt

-- the answer to an input that isn't too long, by what is due to its texts
pub due_drill : (o : Options) (schedule : ℕ) (input job script : List ℕ) → length input ≤ 262144 → job ≡ job_text input → script ≡ script_text input → (r : Result Answer Memory) →
    IfOk r (λ a. DueTexts o schedule job script a.status a.text) → IfOk r (λ a. DueDrill o schedule input a.status a.text)
due_drill o schedule input job script fits is_job is_script (Ok a) due =
    by a.status (subst (λ t. DueTexts o schedule t (script_text input) a.status a.text) is_job (subst (λ t. DueTexts o schedule job t a.status a.text) is_script due))
  where
    by : (s : Status) → DueTexts o schedule (job_text input) (script_text input) s a.text → DueDrill o schedule input s a.text
    by statuses.Done due = (fits, due)
    by statuses.Still due = (fits, due)
    by statuses.Usage due = (fits, due)
    by statuses.Script due = (fits, due)
    by statuses.Job due = (fits, due)
    by statuses.Long (p, is, (lines, reads, kept, due)) = absurd due
    by statuses.Read due = (fits, due)
    by statuses.Write due = (fits, due)
    by statuses.Memory due = (fits, due)
due_drill o schedule input job script fits is_job is_script (Err e) due = tt
