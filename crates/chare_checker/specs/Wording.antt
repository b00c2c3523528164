-- How a fault is told: its line and its column in the text, and a word.
use Rattle.std.specs.Prelude.{ℕ, suc, Bool, not, ◌==◌, nat_le, if◌then◌else◌, List, [], length, take, reverse, codes}
use Rattle.std.specs.List.{count_by, take_while}
use Rattle.chare_checker.specs.declared.wording.Wording.{Wording}

-- ---- places

-- Only LF ends a line.
abbrev pub ends_line : ℕ → Bool
ends_line b = b == 10

-- the line of a place of the text, from 1: one more than lines end before it
abbrev pub line_of : List ℕ → ℕ → ℕ
line_of text at = suc (count_by ends_line (take at text))

-- the column, from 1: one more than bytes stand before it in its line
abbrev pub column_of : List ℕ → ℕ → ℕ
column_of text at = suc (length (take_while (λ b. not (ends_line b)) (reverse (take at text))))

abbrev pub wording : List ℕ → ℕ → ℕ → Wording
wording text at code = record { line = line_of text at; column = column_of text at; code = code }

-- ---- words, by their codes

abbrev pub parse_word : ℕ → List ℕ
parse_word code =
    if code == 1 then codes "token"
    else (if code == 2 then codes "number"
    else (if code == 3 then codes "unexpected"
    else (if code == 4 then codes "deep"
    else (if code == 5 then codes "long"
    else []))))

abbrev pub rule_word : ℕ → List ℕ
rule_word code =
    if code == 6 then codes "twice"
    else (if code == 7 then codes "unknown"
    else (if code == 8 then codes "kind"
    else (if code == 9 then codes "shape"
    else (if code == 10 then codes "not-once"
    else (if code == 11 then codes "too-early"
    else (if code == 12 then codes "overlap"
    else (if code == 13 then codes "bound"
    else (if code == 14 then codes "limit"
    else []))))))))

abbrev pub word_of : ℕ → List ℕ
word_of code = if nat_le code 5 then parse_word code else rule_word code
