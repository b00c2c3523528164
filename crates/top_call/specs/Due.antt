-- What the program owes: the status and the text, by the words and the input.
use Rattle.std.specs.Prelude.{◌≡◌, ◌≢◌, ℕ, ◌<◌, ◌≤◌, Bool, true, false, List, [], ◌++◌, Option, Some, None, Err, codes, length, map, ◌⊎◌}
use Rattle.std.specs.List.{list_any}
use Rattle.std.specs.Fmt.{decimal}
use Rattle.std.specs.String.{string_bytes}
use Rattle.std.specs.declared.string.String.{String}
use Rattle.std.specs.declared.alloc.Global.{Global}
use Rattle.std.specs.declared.process.ExitCode.{ExitCode}
use Rattle.std.specs.Process.{exit_status}
use Rattle.std.specs.Io.KnownBytes.{Consumes, Appends, IsAtEnd}
use Rattle.chare_base.specs.declared.options.Options.{Options}
use Rattle.chare_base.specs.declared.plan.Plan.{Plan}
use Rattle.chare_base.specs.Elements.{elements}
use Rattle.chare_checker.specs.declared.wording.Wording.{Wording}
use Rattle.job_rules.specs.Accepted.{HasNoPlan, IsPlan, IsRefused}
use Rattle.chare_checker.specs.Wording.{word_of, wording}
use Rattle.command_words.specs.declared.command.Command.{Command}
use Rattle.command_words.specs.declared.command.Command.TheVariants.{Drill}
use Rattle.command_words.specs.Grammar.{command_in}
use Rattle.fault_script.specs.declared.fault.Fault.{Fault}
use Rattle.fault_script.specs.declared.fault.Fault.TheVariants as faults
use Rattle.fault_script.specs.declared.fault.FaultLine.{FaultLine}
use Rattle.fault_script.specs.declared.reading.ScriptFault.{ScriptFault}
use Rattle.fault_script.specs.Lines.{faults_of}
use Rattle.fault_script.specs.Reading.{IsScript, script_of}
use Rattle.fault_script.specs.Wording.{line_told, word_told}
use Rattle.outside_io.specs.Counts.{Rose}
use Rattle.outside_io.specs.Parts.{AppendsPart, ConsumesPart}
use Rattle.run_ledger.specs.declared.record.Record.{Record}
use Rattle.run_ledger.specs.Apart.{Apart}
use Rattle.run_ledger.specs.Lawful.{Lawful}
use Rattle.run_report.specs.Report.{report, plain_report}
use Rattle.world_core.specs.Drills.{drill_setting, drilled, scheduled}
use Rattle.world_core.specs.Sound.{NoneBegun}
use Rattle.top_call.specs.declared.status.Status.{Status}
use Rattle.top_call.specs.declared.status.Status.TheVariants.{Done, Usage, Job, Script, Long, Read, Write, Memory, Still}
use Rattle.top_call.specs.Split.{job_text, script_text}

abbrev pub code_of : Status → ℕ
code_of Done = 0
code_of Usage = 2
code_of Job = 3
code_of Script = 4
code_of Long = 5
code_of Read = 6
code_of Write = 7
code_of Memory = 10
code_of Still = 11

-- what the words ask for: None where they are outside the command grammar
abbrev pub asked : List (String Global) → Option Command
asked words = command_in (map string_bytes words)

-- The text reports the records of the world that the schedule reaches. They are lawful under the script. Every checkpoint that
-- they accept and every answer in the text is that of the fault-free run, where no flips of the two replicas make equal checkpoints that
-- are wrong; so it is without a script. After any number of the schedule's turns, while an iteration is agreed no element of a slot that takes
-- part has begun it, so that none does before its state is packed.
pub record IsReport (p : Plan) (script : List FaultLine) (o : Options) (schedule : ℕ) (text : List ℕ) : Type 0 where
  pub records : List Record
  pub reached : records ≡ (drilled p script o schedule).conductor.records
  pub lawful : Lawful p (faults_of script) o records
  pub reports : text ≡ report p script o records
  pub right : Apart p (faults_of script) → text ≡ plain_report p script o records
  pub fault_free : script ≡ [] → text ≡ plain_report p script o records
  pub waits : (turns : ℕ) → NoneBegun (scheduled (drill_setting p (faults_of script) o) o turns schedule)

-- why a text is no job: `job LINE COLUMN WORD`
abbrev pub job_line : Wording → List ℕ
job_line w = codes "job " ++ decimal w.line ++ codes " " ++ decimal w.column ++ codes " " ++ word_of w.code ++ codes "\n"

-- why a text is no script for a job and its nodes: `script LINE WORD`
abbrev pub script_line : ScriptFault → List ℕ
script_line fault = codes "script " ++ decimal (line_told fault) ++ codes " " ++ word_told fault ++ codes "\n"

-- there are more nodes than elements: `nodes M elements E`
abbrev pub nodes_line : ℕ → ℕ → List ℕ
nodes_line nodes count = codes "nodes " ++ decimal nodes ++ codes " elements " ++ decimal count ++ codes "\n"

-- a script with a crash line, which can't be run yet
abbrev pub is_crash : Fault → Bool
is_crash (faults.Flip replica element cell mask at) = false
is_crash (faults.Crash slot at) = true

abbrev pub has_crash : List FaultLine → Bool
has_crash script = list_any (λ (line : FaultLine). is_crash line.fault) script

-- the status and the text that a job is owed, drilled under this script with these options by this schedule
abbrev pub DueRun : Options → ℕ → Plan → List FaultLine → Status → List ℕ → Type 0
DueRun o schedule p script Done text = (o.nodes ≤ elements p) × IsReport p script o schedule text
DueRun o schedule p script Still text = (o.nodes ≤ elements p) × (script ≢ []) × ((drilled p script o schedule).conductor.outcome ≡ None) × (text ≡ codes "still\n")
DueRun o schedule p script Usage text = (elements p < o.nodes) × (text ≡ nodes_line o.nodes (elements p))
DueRun o schedule p script _ text = ⊥

-- a script's text that is refused: it is no script for the job and the nodes, or it has a crash line
abbrev pub Unscripted : Options → Plan → List ℕ → List ℕ → Type 0
Unscripted o p script text =
    ((fault : ScriptFault) × (script_of p o.nodes script ≡ Err fault) × (text ≡ script_line fault))
    ⊎ ((lines : List FaultLine) × IsScript p o.nodes script lines × (has_crash lines ≡ true) × (text ≡ codes "unbuilt\n"))

-- the status and the text that a job with a script's text is owed
abbrev pub DueJob : Options → ℕ → Plan → List ℕ → Status → List ℕ → Type 0
DueJob o schedule p script Script text = Unscripted o p script text
DueJob o schedule p script status text =
    (lines : List FaultLine) × IsScript p o.nodes script lines × (has_crash lines ≡ false) × DueRun o schedule p lines status text

-- the status and the text that a job's text and a script's are owed
abbrev pub DueTexts : Options → ℕ → List ℕ → List ℕ → Status → List ℕ → Type 0
DueTexts o schedule job script Job text = HasNoPlan job × ((at : ℕ) × (code : ℕ) × IsRefused job at code × (text ≡ job_line (wording job at code)))
DueTexts o schedule job script status text = (p : Plan) × IsPlan job p × DueJob o schedule p script status text

-- the status and the text that an input is owed
abbrev pub DueDrill : Options → ℕ → List ℕ → Status → List ℕ → Type 0
DueDrill o schedule input Long text = (262144 < length input) × (text ≡ codes "long\n")
DueDrill o schedule input status text = (length input ≤ 262144) × DueTexts o schedule (job_text input) (script_text input) status text

abbrev pub Due : Command → List ℕ → Status → List ℕ → Type 0
Due (Drill o schedule) input status text = DueDrill o schedule input status text

-- what came of a source: all there was, or the first 262,145 bytes
pub record Came (left left' : Option (List ℕ)) (input : List ℕ) : Type 0 where
  pub taken : Consumes left left' input
  pub most : length input ≤ 262145
  pub end : length input < 262145 → IsAtEnd left'

-- the text that is due with a status after a command: none with want of memory, or with a sink that failed
abbrev pub DueAfter : Command → Option (List ℕ) → Option (List ℕ) → ℕ → ℕ → Status → List ℕ → Type 0
DueAfter command left left' faults faults' Read text = Rose faults faults' × ConsumesPart left left' 262145 × (text ≡ codes "read\n")
DueAfter command left left' faults faults' status text = (input : List ℕ) × Came left left' input × Due command input status text

-- words that are no command, for which nothing is read
abbrev pub DueNone : Option (List ℕ) → Option (List ℕ) → Status → List ℕ → Type 0
DueNone left left' Usage text = (left' ≡ left) × (text ≡ codes "usage\n")
DueNone left left' _ text = ⊥

abbrev pub DueBy : Option Command → Option (List ℕ) → Option (List ℕ) → ℕ → ℕ → Status → List ℕ → Type 0
DueBy None left left' faults faults' status text = DueNone left left' status text
DueBy (Some command) left left' faults faults' status text = DueAfter command left left' faults faults' status text

-- the text that is due with a status, after these words
abbrev pub DueText : List (String Global) → Option (List ℕ) → Option (List ℕ) → ℕ → ℕ → Status → List ℕ → Type 0
DueText words left left' faults faults' status text = DueBy (asked words) left left' faults faults' status text

-- A text was given whole with its status, or in part where the sink failed.
abbrev pub Written : Option (List ℕ) → Option (List ℕ) → ℕ → ℕ → Status → List ℕ → Status → Type 0
Written given given' count count' status text result =
    ((result ≡ status) × Appends given given' text) ⊎ ((result ≡ Write) × Rose count count' × AppendsPart given given' text)

-- The clause of the top call: what each answer says of the words, the source and the sink.
abbrev pub Answers : List (String Global) → Option (List ℕ) → Option (List ℕ) → ℕ → ℕ → Option (List ℕ) → Option (List ℕ) → ℕ → ℕ → Status → Type 0
Answers words left left' faults faults' given given' count count' Memory = Appends given given' []
Answers words left left' faults faults' given given' count count' Write =
    Rose count count' × ((status : Status) × (text : List ℕ) × DueText words left left' faults faults' status text × AppendsPart given given' text)
Answers words left left' faults faults' given given' count count' status =
    (text : List ℕ) × DueText words left left' faults faults' status text × Appends given given' text

-- The process ends with the status of an answer.
abbrev pub Ends : List (String Global) → Option (List ℕ) → Option (List ℕ) → ℕ → ℕ → Option (List ℕ) → Option (List ℕ) → ℕ → ℕ → ExitCode → Type 0
Ends words left left' faults faults' given given' count count' code =
    (status : Status) × Answers words left left' faults faults' given given' count count' status × (exit_status code ≡ code_of status)
