-- How elements and cells are numbered.
use Rattle.std.specs.Prelude.{ℕ, ◌+◌, ◌==◌, Bool, true, ◌&&◌, List, [], ◌∷◌}
use Rattle.std.specs.List.{list_all}
use Rattle.chare_base.specs.declared.plan.Array.{Array}
use Rattle.chare_base.specs.declared.plan.State.{State}
use Rattle.chare_base.specs.Sizes.{size_of}

-- each array's elements follow those of the array before, from a number on
abbrev pub numbered_from : ℕ → List Array → Bool
numbered_from n [] = true
numbered_from n (a ∷ more) = a.first == n && numbered_from (n + size_of a) more

-- each state's cells follow those of the state before, from a number on
abbrev pub placed_from : ℕ → List State → Bool
placed_from n [] = true
placed_from n (s ∷ more) = s.at == n && placed_from (n + s.cells) more

unfoldable pub layout_holds : List Array → Bool
layout_holds arrays = numbered_from 0 arrays && list_all (λ a. placed_from 0 a.states) arrays
