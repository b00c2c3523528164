-- The variables of loops, the first of which were written.
use Rattle.std.specs.Prelude.{ℕ, zero, suc, ℤ, pos, List, [], ◌∷◌}

-- the numbers that were written, and 0 for each of the others
abbrev pub shown : ℕ → List ℤ → List ℤ
shown written [] = []
shown zero (x ∷ more) = pos 0 ∷ shown zero more
shown (suc written) (x ∷ more) = x ∷ shown written more
