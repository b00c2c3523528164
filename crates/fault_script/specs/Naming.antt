-- Names of a script, which are those of a job.
use Rattle.std.specs.Prelude.{ℕ, Bool, false, not, ◌==◌, ◌&&◌, ◌||◌, nat_le, List, [], ◌∷◌, codes}
use Rattle.std.specs.List.{list_all}
use Rattle.std.specs.Str.{bytes_eq}
use Rattle.fault_script.specs.Numbers.{is_digit}

-- `a` to `z`, `A` to `Z`, and `_`
abbrev pub is_letter : ℕ → Bool
is_letter b = (nat_le 97 b && nat_le b 122) || (nat_le 65 b && nat_le b 90) || b == 95

abbrev pub in_name : ℕ → Bool
in_name b = is_letter b || is_digit b

-- The words that jobs reserve: those of a job, an array, an entry and an answer; of steps and statements; of values.
abbrev pub is_structure_word : List ℕ → Bool
is_structure_word w =
    bytes_eq w (codes "job") || bytes_eq w (codes "iterate") || bytes_eq w (codes "array") || bytes_eq w (codes "state") || bytes_eq w (codes "int")
    || bytes_eq w (codes "entry") || bytes_eq w (codes "from") || bytes_eq w (codes "wrap") || bytes_eq w (codes "reduce") || bytes_eq w (codes "answer")

abbrev pub is_statement_word : List ℕ → Bool
is_statement_word w =
    bytes_eq w (codes "step") || bytes_eq w (codes "when") || bytes_eq w (codes "overlap") || bytes_eq w (codes "send") || bytes_eq w (codes "contribute")
    || bytes_eq w (codes "if") || bytes_eq w (codes "else") || bytes_eq w (codes "for") || bytes_eq w (codes "in")

abbrev pub is_value_word : List ℕ → Bool
is_value_word w =
    bytes_eq w (codes "sum") || bytes_eq w (codes "min") || bytes_eq w (codes "max") || bytes_eq w (codes "at") || bytes_eq w (codes "index")
    || bytes_eq w (codes "row") || bytes_eq w (codes "col") || bytes_eq w (codes "cell") || bytes_eq w (codes "iter")
    || bytes_eq w (codes "and") || bytes_eq w (codes "or") || bytes_eq w (codes "not") || bytes_eq w (codes "faults")

unfoldable pub is_reserved : List ℕ → Bool
is_reserved w = is_structure_word w || is_statement_word w || is_value_word w

abbrev pub begins_name : List ℕ → Bool
begins_name [] = false
begins_name (b ∷ more) = is_letter b

-- a letter or `_`, then letters, digits or `_`, and no reserved word
unfoldable pub is_name : List ℕ → Bool
is_name w = begins_name w && list_all in_name w && not (is_reserved w)
