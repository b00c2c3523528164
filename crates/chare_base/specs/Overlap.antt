-- No part of a step uses a state that another part writes.
use Rattle.std.specs.Prelude.{ℕ, suc, Bool, not, ◌||◌, nat_le, if◌then◌else◌, List, [], ◌∷◌}
use Rattle.std.specs.List.{list_all, list_any}
use Rattle.chare_base.specs.declared.plan.Array.{Array}
use Rattle.chare_base.specs.declared.plan.Part.{Part}
use Rattle.chare_base.specs.declared.plan.State.{State}
use Rattle.chare_base.specs.declared.range.Range.{Range}
use Rattle.chare_base.specs.Uses.{range_of, uses, writes}

-- how many of these parts use a state
abbrev pub users : Range → List Part → ℕ
users range [] = 0
users range (part ∷ more) = if uses part.block range then suc (users range more) else users range more

-- a state is written by no part, or used by one alone
abbrev pub apart_on : List Part → Range → Bool
apart_on parts range = not (list_any (λ part. writes part.block range) parts) || nat_le (users range parts) 1

-- the cells of a state
abbrev pub state_range : State → Range
state_range s = range_of s.at s.cells

abbrev pub parts_apart : List State → List Part → Bool
parts_apart states parts = list_all (λ s. apart_on parts (state_range s)) states

abbrev pub array_apart : Array → Bool
array_apart a = list_all (λ step. parts_apart a.states step.parts) a.steps

unfoldable pub overlaps_hold : List Array → Bool
overlaps_hold arrays = list_all array_apart arrays
