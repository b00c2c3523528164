-- The lines of a script, and what a set of them selects.
use Rattle.std.specs.Prelude.{ℕ, ◌+◌, ◌*◌, ◌/◌, ◌%◌, Bool, ◌==◌, if◌then◌else◌, List, [], ◌∷◌, map}
use Rattle.chare_base.specs.Flip.{Flip}
use Rattle.fault_script.specs.declared.fault.Fault.{Fault}
use Rattle.fault_script.specs.declared.fault.Fault.TheVariants as faults
use Rattle.fault_script.specs.declared.fault.FaultLine.{FaultLine}

-- what the lines do, in order
abbrev pub faults_of : List FaultLine → List Fault
faults_of lines = map (λ (line : FaultLine). line.fault) lines

-- ---- sets of lines

-- What a set selects from a list with an item for each line: the lowest bit of the set stands for the first line.
abbrev pub selection : {A : Type 0} → List A → ℕ → List A
selection [] set = []
selection (x ∷ more) set = if set % 2 == 1 then x ∷ selection more (set / 2) else selection more (set / 2)

-- the set of the lines that pass a test
abbrev pub set_of : {A : Type 0} → (A → Bool) → List A → ℕ
set_of test [] = 0
set_of test (x ∷ more) = (if test x then 1 else 0) + 2 * set_of test more

-- ---- flips

-- The flips among faults, in order. Which replica a flip strikes plays no part.
abbrev pub with_flip_of : Fault → List Flip → List Flip
with_flip_of (faults.Flip replica element cell mask at) more =
    record { element = element.0; cell = cell; mask = mask; at = at } ∷ more
with_flip_of (faults.Crash slot at) more = more

abbrev pub flips_among : List Fault → List Flip
flips_among [] = []
flips_among (f ∷ more) = with_flip_of f (flips_among more)

-- The flips of a set of lines of a script. A crash line has its bit too, and is no flip.
abbrev pub flips_in : List Fault → ℕ → List Flip
flips_in script set = flips_among (selection script set)
