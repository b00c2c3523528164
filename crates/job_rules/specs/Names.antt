-- Names by their places in the text, and what they are declared as.
use Rattle.std.specs.Prelude.{ℕ, Bool, List, [], ◌∷◌, ◌++◌, map, take, drop, position, Option, Some, None, is_some, if◌then◌else◌}
use Rattle.std.specs.Str.{bytes_eq}
use Rattle.std.specs.declared.vec.Vec.{Vec}
use Rattle.std.specs.declared.alloc.Global.{Global}
use Rattle.job_tree.specs.declared.token.Span.{Span}
use Rattle.job_tree.specs.declared.tree.Names.{Names}
use Rattle.job_rules.specs.declared.names.Meaning.{Meaning}

abbrev pub bytes_at : List ℕ → Span → List ℕ
bytes_at text name = take name.len (drop name.at text)

abbrev pub same_name : List ℕ → Span → Span → Bool
same_name text a b = bytes_eq (bytes_at text a) (bytes_at text b)

-- the names of a list of the tree
abbrev pub names_listed : Names → List Span
names_listed names = names.first ∷ names.others

-- a name with its meaning
pub record Known : Type 0 where
  pub name : List ℕ
  pub meaning : Meaning

-- the meaning of a name among those that are declared, if it is
unfoldable pub lookup : List Known → List ℕ → Option Meaning
lookup [] name = None
lookup (k ∷ more) name = if bytes_eq name k.name then Some k.meaning else lookup more name

-- a name is declared, where it wasn't before
abbrev pub declare : List Known → List ℕ → Meaning → List Known
declare names name meaning = if is_some (lookup names name) then names else names ++ record { name = name; meaning = meaning } ∷ []

-- the entries of a map
abbrev pub known : List (Vec ℕ Global × Meaning) → List Known
known entries = map (λ e. record { name = e.0.items; meaning = e.1 }) entries

-- the number of the first name in a list that is spelled so
unfoldable pub local_named : List ℕ → List Span → Span → Option ℕ
local_named text names name = position (λ n. same_name text n name) names
