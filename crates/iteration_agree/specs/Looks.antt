-- How often the conductor looks at slots in turn, where it looks only while some slot's sight differs from the last one
-- given to it.
use Rattle.std.specs.Prelude.{ℕ, zero, suc, ◌+◌, ◌<◌, ◌≤◌, Bool, true, false, List, [], ◌∷◌, ◌++◌, length, slice_set}

abbrev pub times : ℕ → ℕ → ℕ
times zero r = 0
times (suc n) r = r + times n r

-- of each slot, from the next to look at on and round: whether its sight differs from the last one given
abbrev pub differing : List Bool → ℕ
differing [] = 0
differing (true ∷ more) = suc (differing more)
differing (false ∷ more) = differing more

-- how many come before the first that differs
abbrev pub before_first : List Bool → ℕ
before_first [] = 0
before_first (true ∷ more) = 0
before_first (false ∷ more) = suc (before_first more)

abbrev pub looks_at : ℕ → ℕ → ℕ → ℕ
looks_at slots zero ahead = 0
looks_at slots (suc n) ahead = suc (times (suc n) slots + ahead)

-- at most this many looks are left
abbrev pub looks_left : List Bool → ℕ
looks_left sights = looks_at (length sights) (differing sights) (before_first sights)

-- a look at the next slot
abbrev pub looked : List Bool → List Bool
looked [] = []
looked (d ∷ more) = more ++ false ∷ []

abbrev pub LooksLower : Type 0
LooksLower = (sights : List Bool) → 0 < differing sights → looks_left (looked sights) < looks_left sights

-- one sight changes
abbrev pub ChangesRaise : Type 0
ChangesRaise = (sights : List Bool) (i : ℕ) → looks_left (slice_set sights i true) ≤ looks_left sights + (length sights + length sights + 1)
