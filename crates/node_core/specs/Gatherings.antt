-- Contributions to reductions, as they are gathered.
use Rattle.std.specs.Prelude.{ℕ, suc, Bool, ◌==◌, ◌&&◌, nat_lt, if◌then◌else◌, ℤ, List, [], ◌∷◌, ◌++◌, length, remove, replicate, slice_get, slice_set, is_none, Option, Some, None}
use Rattle.chare_base.specs.declared.message.ReductionId.{ReductionId}
use Rattle.chare_base.specs.declared.plan.How.{How}
use Rattle.object_steps.specs.Partial.{Gathered, given_at, whole, with_given}

-- what the members of a reduction contributed in an iteration so far
pub record Gathering : Type 0 where
  pub reduction : ReductionId
  pub iteration : ℕ
  pub gathered : Gathered

-- what is gathered after a contribution, and the total, if none was missing any more
pub record Tallied : Type 0 where
  pub gatherings : List Gathering
  pub total : Option ℤ

abbrev pub is_of : ReductionId → ℕ → Gathering → Bool
is_of r k g = g.reduction.0 == r.0 && g.iteration == k

-- nothing gathered yet, of this number of members
abbrev pub gathering : How → ℕ → ReductionId → ℕ → Gathering
gathering how members r k = record { reduction = r; iteration = k; gathered = record { how = how; given = replicate members None } }

-- a member's contribution; a second one changes nothing
abbrev pub given_to : ℕ → ℤ → Gathering → Gathering
given_to rank value g =
    if nat_lt rank (length g.gathered.given) && is_none (given_at g.gathered.given rank) then
    record { reduction = g.reduction; iteration = g.iteration; gathered = with_given g.gathered rank value }
    else g

abbrev pub with_first : Gathering → Tallied → Tallied
with_first g t = record { gatherings = g ∷ t.gatherings; total = t.total }

-- what is whole is gathered no longer
abbrev pub settled_by : Option ℤ → Gathering → List Gathering → Tallied
settled_by None g more = record { gatherings = g ∷ more; total = None }
settled_by (Some total) g more = record { gatherings = more; total = Some total }

abbrev pub settled : Gathering → List Gathering → Tallied
settled g more = settled_by (whole g.gathered) g more

-- a member's contribution goes into the gathering of its reduction and iteration, or into a new one
abbrev pub counted : Gathering → ℕ → ℤ → List Gathering → Tallied
counted new rank value [] = settled (given_to rank value new) []
counted new rank value (g ∷ more) = if is_of new.reduction new.iteration g then settled (given_to rank value g) more else with_first g (counted new rank value more)

-- a contribution of one of the members
unfoldable pub tallied : How → ℕ → ℕ → ReductionId → ℕ → ℤ → List Gathering → Tallied
tallied how members rank r k value all = if nat_lt rank members then counted (gathering how members r k) rank value all else record { gatherings = all; total = None }

-- what is gathered of a reduction in an iteration
abbrev pub gathering_of : ReductionId → ℕ → List Gathering → Option Gathering
gathering_of r k [] = None
gathering_of r k (g ∷ more) = if is_of r k g then Some g else gathering_of r k more

-- ---- by places in the list

-- the place of what is gathered of a reduction in an iteration; the first has number i
abbrev pub gathering_at : ReductionId → ℕ → ℕ → List Gathering → Option ℕ
gathering_at r k i [] = None
gathering_at r k i (g ∷ more) = if is_of r k g then Some i else gathering_at r k (suc i) more

abbrev pub settled_at : ℕ → Gathering → List Gathering → Option ℤ → Tallied
settled_at i g all None = record { gatherings = slice_set all i g; total = None }
settled_at i g all (Some total) = record { gatherings = remove (slice_set all i g) i; total = Some total }

abbrev pub settled_as : ℕ → List Gathering → Gathering → Tallied
settled_as i all g = settled_at i g all (whole g.gathered)

abbrev pub settled_by_place : ℕ → ℕ → ℤ → List Gathering → Option Gathering → Tallied
settled_by_place i rank value all None = record { gatherings = all; total = None }
settled_by_place i rank value all (Some g) = settled_as i all (given_to rank value g)

-- a member's contribution goes into the gathering at a place
abbrev pub settled_in : ℕ → ℕ → ℤ → List Gathering → Tallied
settled_in i rank value all = settled_by_place i rank value all (slice_get all i)

abbrev pub counted_at : Gathering → ℕ → ℤ → List Gathering → Option ℕ → Tallied
counted_at new rank value all None = settled_in (length all) rank value (all ++ new ∷ [])
counted_at new rank value all (Some i) = settled_in i rank value all
