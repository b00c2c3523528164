-- Lines of a text, and words of a line.
use Rattle.std.specs.Prelude.{ℕ, ◌+◌, Bool, false, not, ◌==◌, ◌&&◌, List, [], ◌∷◌, length, take, drop, Option}
use Rattle.std.specs.List.{enumerate_from, filter, list_any, position, slice_split}
use Rattle.std.specs.Option.{option_map, option_map_or}
use Rattle.std.specs.Str.Lines.{lines}

-- Lines are those of std's `lines`: LF ends a line, and a CR before it is dropped. What stands behind the last LF is a line unless it
-- is empty, and keeps its CR.

-- a line that is neither empty nor of spaces alone, and doesn't begin with `#`
abbrev pub is_fault_line : List ℕ → Bool
is_fault_line [] = false
is_fault_line (b ∷ more) = not (b == 35) && list_any (λ c. not (c == 32)) (b ∷ more)

-- the fault lines of a text, each with its number; all lines are numbered, from 1
unfoldable pub fault_lines : List ℕ → List (ℕ × List ℕ)
fault_lines text = filter (λ (l : ℕ × List ℕ). is_fault_line l.1) (enumerate_from 1 (lines text))

-- the words of a line: what stands between its spaces, where something does
unfoldable pub words : List ℕ → List (List ℕ)
words line = filter (λ w. not (length w == 0)) (slice_split (λ b. b == 32) line)

-- what stands before the first such byte, which is all where there is none
abbrev pub before : ℕ → List ℕ → List ℕ
before byte text = option_map_or (λ at. take at text) (position (λ b. b == byte) text) text

-- what stands behind the first such byte, where there is one
abbrev pub behind : ℕ → List ℕ → Option (List ℕ)
behind byte text = option_map (λ at. drop (at + 1) text) (position (λ b. b == byte) text)
