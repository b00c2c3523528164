-- What the members of a reduction contribute, and what it makes.
use Rattle.std.specs.Prelude.{◌≡◌, ℕ, suc, ◌≤◌, length, ℤ, List, [], ◌∷◌, Option, Some, None, is_some, if◌then◌else◌, slice_index_or, slice_set}
use Rattle.std.specs.List.{list_all}
use Rattle.chare_base.specs.declared.plan.How.{How}
use Rattle.chare_base.specs.Total.{joined_to}

pub record Gathered : Type 0 where
  pub how : How
  -- each member's contribution, if it made one
  pub given : List (Option ℤ)

-- how many members have not contributed
abbrev pub missing : List (Option ℤ) → ℕ
missing [] = 0
missing (None ∷ more) = suc (missing more)
missing (Some v ∷ more) = missing more

-- what a count of those that are missing keeps: it is exact, and there is a member
pub record Keeps (left : ℕ) (given : List (Option ℤ)) : Type 0 where
  pub count : left ≡ missing given
  pub some : 1 ≤ length given

-- the contributions that were made, in the members' order
abbrev pub values : List (Option ℤ) → List ℤ
values [] = []
values (None ∷ more) = values more
values (Some v ∷ more) = v ∷ values more

-- what they make
abbrev pub total_of : How → List (Option ℤ) → Option ℤ
total_of how given = joined_to how None (values given)

-- the total of all contributions, once none is missing
abbrev pub whole : Gathered → Option ℤ
whole g = if list_all is_some g.given then total_of g.how g.given else None

abbrev pub with_given : Gathered → ℕ → ℤ → Gathered
with_given g member value = record { how = g.how; given = slice_set g.given member (Some value) }

-- a member's contribution, if it made one
abbrev pub given_at : List (Option ℤ) → ℕ → Option ℤ
given_at given member = slice_index_or given member None
