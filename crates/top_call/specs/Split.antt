-- The two texts of an input: the job's, and behind the first line that is exactly `faults` the script's.
use Rattle.std.specs.Prelude.{ℕ, ◌+◌, ◌==◌, Bool, if◌then◌else◌, List, [], ◌∷◌, codes, length, take, drop, Option, Some, None}
use Rattle.std.specs.List.{slice_split}
use Rattle.std.specs.Option.{option_map, option_map_or}
use Rattle.std.specs.Str.{bytes_eq}

-- what stands between LFs
abbrev pub lines_of : List ℕ → List (List ℕ)
lines_of input = slice_split (λ b. b == 10) input

abbrev pub is_faults : List ℕ → Bool
is_faults line = bytes_eq line (codes "faults")

-- where the first of these lines begins that is exactly `faults`
abbrev pub faults_among : List (List ℕ) → Option ℕ
faults_among [] = None
faults_among (line ∷ more) = if is_faults line then Some 0 else option_map (λ at. length line + 1 + at) (faults_among more)

unfoldable pub faults_at : List ℕ → Option ℕ
faults_at input = faults_among (lines_of input)

-- the job's text, which is all where there is no such line
abbrev pub job_text : List ℕ → List ℕ
job_text input = option_map_or (λ at. take at input) (faults_at input) input

-- the script's text, behind the line and its LF
abbrev pub script_text : List ℕ → List ℕ
script_text input = option_map_or (λ at. drop (at + 7) input) (faults_at input) []
