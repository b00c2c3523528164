-- The words of the language that are no names.
use Rattle.std.specs.Prelude.{ℕ, List, Option, Some, None, codes, if◌then◌else◌}
use Rattle.std.specs.Option.{option_or}
use Rattle.std.specs.Str.{bytes_eq}
use Rattle.job_tree.specs.declared.token.Mark.{Mark}
use Rattle.job_tree.specs.declared.token.Mark.TheVariants as marks

-- words of a job, an array, an entry and an answer
abbrev pub structure_word : List ℕ → Option Mark
structure_word word =
    if bytes_eq word (codes "job") then Some marks.Job
    else (if bytes_eq word (codes "iterate") then Some marks.Iterate
    else (if bytes_eq word (codes "array") then Some marks.Array
    else (if bytes_eq word (codes "state") then Some marks.State
    else (if bytes_eq word (codes "int") then Some marks.Int
    else (if bytes_eq word (codes "entry") then Some marks.Entry
    else (if bytes_eq word (codes "from") then Some marks.From
    else (if bytes_eq word (codes "wrap") then Some marks.Wrap
    else (if bytes_eq word (codes "reduce") then Some marks.Reduce
    else (if bytes_eq word (codes "answer") then Some marks.Answer
    else None)))))))))

-- words of steps and statements
abbrev pub statement_word : List ℕ → Option Mark
statement_word word =
    if bytes_eq word (codes "step") then Some marks.Step
    else (if bytes_eq word (codes "when") then Some marks.When
    else (if bytes_eq word (codes "overlap") then Some marks.Overlap
    else (if bytes_eq word (codes "send") then Some marks.Send
    else (if bytes_eq word (codes "contribute") then Some marks.Contribute
    else (if bytes_eq word (codes "if") then Some marks.If
    else (if bytes_eq word (codes "else") then Some marks.Else
    else (if bytes_eq word (codes "for") then Some marks.For
    else (if bytes_eq word (codes "in") then Some marks.In
    else None))))))))

-- words of values
abbrev pub value_word : List ℕ → Option Mark
value_word word =
    if bytes_eq word (codes "sum") then Some marks.Sum
    else (if bytes_eq word (codes "min") then Some marks.Min
    else (if bytes_eq word (codes "max") then Some marks.Max
    else (if bytes_eq word (codes "at") then Some marks.At
    else (if bytes_eq word (codes "index") then Some marks.Index
    else (if bytes_eq word (codes "row") then Some marks.Row
    else (if bytes_eq word (codes "col") then Some marks.Col
    else (if bytes_eq word (codes "cell") then Some marks.Cell
    else (if bytes_eq word (codes "iter") then Some marks.Iter
    else (if bytes_eq word (codes "and") then Some marks.And
    else (if bytes_eq word (codes "or") then Some marks.Or
    else (if bytes_eq word (codes "not") then Some marks.Not
    else (if bytes_eq word (codes "faults") then Some marks.Faults
    else None))))))))))))

-- the mark that a word is reserved for
unfoldable pub reserved : List ℕ → Option Mark
reserved word = option_or (structure_word word) (option_or (statement_word word) (value_word word))
