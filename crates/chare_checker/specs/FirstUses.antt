-- A table that tells of each state of an array the first part of a step that uses it, or the first that writes it.
use Rattle.std.specs.Prelude.{◌≡◌, ℕ, ◌<◌, ◌≤◌, Bool, not, ◌&&◌, ◌||◌, ◌==◌, nat_lt, if◌then◌else◌, List, [], ◌∷◌, length, slice_index_or, slice_set}
use Rattle.std.specs.List.{list_any}
use Rattle.job_rules.specs.declared.notes.StateUse.{StateUse}

-- every use counts, or writes alone
abbrev pub counts : Bool → StateUse → Bool
counts writes v = not writes || v.written

-- the table with one more use
abbrev pub marked : Bool → List ℕ → StateUse → List ℕ
marked writes table v = if counts writes v && nat_lt v.part (slice_index_or table v.state 0) then slice_set table v.state v.part else table

abbrev pub all_marked : Bool → List ℕ → List StateUse → List ℕ
all_marked writes table [] = table
all_marked writes table (v ∷ more) = all_marked writes (marked writes table v) more

-- v counts as a use of a state in a part before this one
abbrev pub used_in : Bool → ℕ → ℕ → StateUse → Bool
used_in writes state part v = v.state == state && (counts writes v && nat_lt v.part part)

-- A table tells of its states whether a part before a given one uses them.
abbrev pub Tells : Bool → List StateUse → List ℕ → Type 0
Tells writes uses table =
    (state part : ℕ) → state < length table → part ≤ 18446744073709551615 → nat_lt (slice_index_or table state 0) part ≡ list_any (used_in writes state part) uses
