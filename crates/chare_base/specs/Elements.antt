-- The elements of a plan, in element order.
use Rattle.std.specs.Prelude.{ℕ, suc, ◌+◌, ◌-◌, ◌/◌, ◌%◌, if◌then◌else◌, nat_lt, List, [], ◌∷◌, length, Option, slice_get, max}
use Rattle.std.specs.Option.{option_map_or}
use Rattle.chare_base.specs.declared.message.Need.{Need}
use Rattle.chare_base.specs.declared.message.Need.TheVariants as needs
use Rattle.chare_base.specs.declared.plan.Array.{Array}
use Rattle.chare_base.specs.declared.plan.Answer.{Answer}
use Rattle.chare_base.specs.declared.plan.Entry.{Entry}
use Rattle.chare_base.specs.declared.plan.Place.{Place}
use Rattle.chare_base.specs.declared.plan.Plan.{Plan}
use Rattle.chare_base.specs.declared.plan.Reduction.{Reduction}
use Rattle.chare_base.specs.declared.plan.State.{State}
use Rattle.chare_base.specs.declared.plan.Step.{Step}
use Rattle.chare_base.specs.declared.plan.Part.{Part}
use Rattle.chare_base.specs.declared.plan.Stmt.{Stmt}
use Rattle.chare_base.specs.Sizes.{elements_in, size_of, cells_in}

-- a plan's fields, without the facts that its type keeps
pub record Fields : Type 0 where
  pub name : List ℕ
  pub iterations : ℕ
  pub arrays : List Array
  pub entries : List Entry
  pub reductions : List Reduction
  pub answers : List Answer

abbrev pub fields_of : Plan → Fields
fields_of p = record {
  name = p.name;
  iterations = p.iterations;
  arrays = p.arrays;
  entries = p.entries;
  reductions = p.reductions;
  answers = p.answers;
}

abbrev pub elements : Plan → ℕ
elements p = elements_in p.arrays

-- where an element stands in these arrays, the first of which has the given number
abbrev pub place_in : ℕ → List Array → ℕ → Place
place_in number [] e = record { array = number; index = e }
place_in number (a ∷ more) e =
    if nat_lt e (a.first + size_of a) then record { array = number; index = e - a.first } else place_in (suc number) more e

unfoldable pub place_of : Plan → ℕ → Place
place_of p e = place_in 0 p.arrays e

abbrev pub array_of : Plan → ℕ → Option Array
array_of p e = slice_get p.arrays (place_of p e).array

-- what an element holds and runs, nothing where there is no such element
abbrev pub states_of : Plan → ℕ → List State
states_of p e = option_map_or (λ a. a.states) (array_of p e) []

-- how many cells an element has
abbrev pub cells_of : Plan → ℕ → ℕ
cells_of p e = cells_in (states_of p e)

-- how many columns the element's array has
abbrev pub cols_at : Plan → ℕ → ℕ
cols_at p e = option_map_or (λ a. a.cols) (array_of p e) 1

-- the element's row and column
abbrev pub row_of : Plan → ℕ → ℕ
row_of p e = (place_of p e).index / cols_at p e

abbrev pub col_of : Plan → ℕ → ℕ
col_of p e = (place_of p e).index % cols_at p e

abbrev pub steps_of : Plan → ℕ → List Step
steps_of p e = option_map_or (λ a. a.steps) (array_of p e) []

abbrev pub parts_at : Plan → ℕ → ℕ → List Part
parts_at p e s = option_map_or (λ (step : Step). step.parts) (slice_get (steps_of p e) s) []

abbrev pub block_at : Plan → ℕ → ℕ → ℕ → List Stmt
block_at p e s q = option_map_or (λ (part : Part). part.block) (slice_get (parts_at p e s) q) []

-- what a part of an element's step needs
abbrev pub need_at : Plan → ℕ → ℕ → ℕ → Need
need_at p e s q = option_map_or (λ (part : Part). part.need) (slice_get (parts_at p e s) q) needs.Nothing

-- the greatest number of steps of an array
abbrev pub most_steps : List Array → ℕ
most_steps [] = 0
most_steps (a ∷ more) = max (length a.steps) (most_steps more)

abbrev pub steps_in_round : Plan → ℕ
steps_in_round p = most_steps p.arrays
