-- Laws of what is due.
use Rattle.std.specs.Prelude.{◌≡◌, ℕ, ◌<◌, ◌≤◌, false, List, [], ◌∷◌, ◌++◌, Option, Some, ⊤, codes, length}
use Rattle.std.specs.List.{join_with_byte, list_any}
use Rattle.std.specs.declared.string.String.{String}
use Rattle.std.specs.declared.alloc.Global.{Global}
use Rattle.top_call.specs.declared.status.Status.{Status}
use Rattle.top_call.specs.declared.status.Status.TheVariants.{Done, Job, Script, Long, Still}
use Rattle.top_call.specs.Due.{Answers}
use Rattle.top_call.specs.Split.{is_faults, job_text, lines_of, script_text}

-- what a status says of how many bytes there were
abbrev pub SaysLength : ℕ → Status → Type 0
SaysLength n Long = 262144 < n
SaysLength n Done = n ≤ 262144
SaysLength n Job = n ≤ 262144
SaysLength n Script = n ≤ 262144
SaysLength n Still = n ≤ 262144
SaysLength n _ = ⊤

-- Of a source that tells its bytes, and was read, `long` is answered exactly where they are more than 262,144.
abbrev pub LongIsExact : Type 0
LongIsExact = (words : List (String Global)) (bytes : List ℕ) (left' : Option (List ℕ)) (faults faults' : ℕ) (given given' : Option (List ℕ)) (count count' : ℕ) (status : Status) →
    Answers words (Some bytes) left' faults faults' given given' count count' status → SaysLength (length bytes) status

-- ---- the two texts of an input

-- lines, each with its LF
abbrev pub ended : List (List ℕ) → List ℕ
ended [] = []
ended (line ∷ more) = line ++ (10 ∷ ended more)

-- Of the first line `faults`, the lines before it are the job's text, and those behind it the script's.
abbrev pub SplitByLines : Type 0
SplitByLines = (input : List ℕ) (before after : List (List ℕ)) → lines_of input ≡ before ++ (codes "faults" ∷ after) → list_any is_faults before ≡ false →
    (job_text input ≡ ended before) × (script_text input ≡ join_with_byte 10 after)

-- without such a line all is the job's text
abbrev pub WholeWithout : Type 0
WholeWithout = (input : List ℕ) → list_any is_faults (lines_of input) ≡ false → (job_text input ≡ input) × (script_text input ≡ [])
