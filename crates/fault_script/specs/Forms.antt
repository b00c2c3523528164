-- The forms of fault lines.
use Rattle.std.specs.Prelude.{ℕ, Bool, true, false, if◌then◌else◌, List, [], ◌∷◌, codes, Option, Some, None}
use Rattle.std.specs.Option.{option_map}
use Rattle.std.specs.Str.{bytes_eq}
use Rattle.fault_script.specs.Naming.{is_name}
use Rattle.fault_script.specs.Numbers.{mask, number}
use Rattle.fault_script.specs.Text.{before, behind}

-- an element as a line names it, `A[i]` or `A[i,j]`
pub record Element : Type 0 where
  pub array : List ℕ
  pub first : ℕ
  pub second : Option ℕ

-- a cell as a line names it, `t` or `v[c]`
pub record Cell : Type 0 where
  pub state : List ℕ
  pub place : Option ℕ

-- `flip R ELEMENT CELL xor M at K`
pub record FlipLine : Type 0 where
  pub replica : ℕ
  pub element : Element
  pub cell : Cell
  pub mask : ℕ
  pub at : ℕ

-- `crash R J at K`
pub record CrashLine : Type 0 where
  pub replica : ℕ
  pub node : ℕ
  pub at : ℕ

pub data Line : Type 0 where
  Flip : FlipLine → Line
  Crash : CrashLine → Line

-- ---- elements and cells

-- a name, and what stands in brackets behind it, where there are brackets
pub record Named : Type 0 where
  pub name : List ℕ
  pub inside : Option (List ℕ)

-- nothing stands behind the closing bracket, and the bracket is there
abbrev pub ends : Option (List ℕ) → Bool
ends None = false
ends (Some []) = true
ends (Some (b ∷ more)) = false

-- what stands before a closing bracket at the end
abbrev pub inside : List ℕ → Option (List ℕ)
inside text = if ends (behind 93 text) then Some (before 93 text) else None

-- by what stands behind the opening bracket
abbrev pub named_by : List ℕ → Option (List ℕ) → Option Named
named_by name None = Some (record { name = name; inside = None })
named_by name (Some text) = option_map (λ found. record { name = name; inside = Some found }) (inside text)

unfoldable pub named : List ℕ → Option Named
named word = if is_name (before 91 word) then named_by (before 91 word) (behind 91 word) else None

-- a number where there is a text; a text must be a number
abbrev pub if_there : Option (List ℕ) → Option (Option ℕ)
if_there None = Some None
if_there (Some text) = option_map Some (number text)

abbrev pub element_of : List ℕ → Option ℕ → Option (Option ℕ) → Option Element
element_of array (Some first) (Some second) = Some (record { array = array; first = first; second = second })
element_of array (Some first) None = None
element_of array None second = None

abbrev pub element_in : List ℕ → Option (List ℕ) → Option Element
element_in array None = None
element_in array (Some text) = element_of array (number (before 44 text)) (if_there (behind 44 text))

abbrev pub element_by : Option Named → Option Element
element_by None = None
element_by (Some n) = element_in n.name n.inside

unfoldable pub element : List ℕ → Option Element
element word = element_by (named word)

abbrev pub cell_of : List ℕ → Option (Option ℕ) → Option Cell
cell_of state None = None
cell_of state (Some place) = Some (record { state = state; place = place })

abbrev pub cell_by : Option Named → Option Cell
cell_by None = None
cell_by (Some n) = cell_of n.name (if_there n.inside)

unfoldable pub cell : List ℕ → Option Cell
cell word = cell_by (named word)

-- ---- lines

abbrev pub flip_of : Option ℕ → Option Element → Option Cell → Option ℕ → Option ℕ → Option FlipLine
flip_of (Some r) (Some e) (Some c) (Some m) (Some k) = Some (record { replica = r; element = e; cell = c; mask = m; at = k })
flip_of (Some r) (Some e) (Some c) (Some m) None = None
flip_of (Some r) (Some e) (Some c) None k = None
flip_of (Some r) (Some e) None m k = None
flip_of (Some r) None c m k = None
flip_of None e c m k = None

abbrev pub crash_of : Option ℕ → Option ℕ → Option ℕ → Option CrashLine
crash_of (Some r) (Some j) (Some k) = Some (record { replica = r; node = j; at = k })
crash_of (Some r) (Some j) None = None
crash_of (Some r) None k = None
crash_of None j k = None

-- the end of a line, `at K`
abbrev pub iteration : List (List ℕ) → Option ℕ
iteration (a ∷ k ∷ []) = if bytes_eq a (codes "at") then number k else None
iteration _ = None

-- the words behind `flip`
abbrev pub flip_line : List (List ℕ) → Option FlipLine
flip_line (r ∷ e ∷ c ∷ x ∷ m ∷ more) = if bytes_eq x (codes "xor") then flip_of (number r) (element e) (cell c) (mask m) (iteration more) else None
flip_line _ = None

-- the words behind `crash`
abbrev pub crash_line : List (List ℕ) → Option CrashLine
crash_line (r ∷ j ∷ more) = crash_of (number r) (number j) (iteration more)
crash_line _ = None

-- what the words of a line spell. None: they are of no form.
unfoldable pub line : List (List ℕ) → Option Line
line [] = None
line (w ∷ more) =
    if bytes_eq w (codes "flip") then option_map Flip (flip_line more)
    else (if bytes_eq w (codes "crash") then option_map Crash (crash_line more)
    else None)
