-- The faults of a tree, and which of two is named.
use Rattle.std.specs.Prelude.{ℕ, Bool, ◌||◌, ◌&&◌, ◌==◌, nat_lt, if◌then◌else◌, List, [], ◌∷◌, Option, Some, None}
use Rattle.job_tree.specs.declared.token.Span.{Span}
use Rattle.job_rules.specs.declared.fault.CheckFault.{CheckFault}
use Rattle.job_rules.specs.declared.fault.CheckFault.TheVariants.{Twice, Unknown, Kind, Shape, NotOnce, TooEarly, Overlap, Bound, Limit, Memory}
use Rattle.job_rules.specs.declared.fault.LimitKind.TheVariants.{Name}

abbrev pub Found : Type 0
Found = Option CheckFault

abbrev pub nothing : Found
nothing = None

abbrev pub place_of : CheckFault → ℕ
place_of (Twice at) = at
place_of (Unknown at) = at
place_of (Kind at) = at
place_of (Shape at) = at
place_of (NotOnce entry at) = at
place_of (TooEarly entry at) = at
place_of (Overlap name at) = at
place_of (Bound at) = at
place_of (Limit which value at) = at
place_of Memory = 0

-- the order of the classes
abbrev pub class_of : CheckFault → ℕ
class_of (Twice at) = 0
class_of (Unknown at) = 1
class_of (Kind at) = 2
class_of (Shape at) = 3
class_of (NotOnce entry at) = 4
class_of (TooEarly entry at) = 5
class_of (Overlap name at) = 6
class_of (Bound at) = 7
class_of (Limit which value at) = 8
class_of Memory = 9

-- of an earlier class, or of the same class at a lesser place
abbrev pub comes_before : CheckFault → CheckFault → Bool
comes_before a b = nat_lt (class_of a) (class_of b) || class_of a == class_of b && nat_lt (place_of a) (place_of b)

-- of two faults the one that is named
abbrev pub sooner : Found → Found → Found
sooner (Some a) (Some b) = if comes_before b a then Some b else Some a
sooner (Some a) None = Some a
sooner None b = b

abbrev pub fault_if : Bool → CheckFault → Found
fault_if broken fault = if broken then Some fault else None

-- of what was found and the faults of these items, the one that is named
abbrev pub first_of : {A : Type 0} → (A → Found) → Found → List A → Found
first_of fault_of found [] = found
first_of fault_of found (x ∷ more) = first_of fault_of (sooner found (fault_of x)) more

-- a name has 32 bytes at most
abbrev pub name_fault : Span → Found
name_fault name = fault_if (nat_lt 32 name.len) (Limit Name name.len name.at)
