-- The first of a list that is lent, and the letter in front of an inbox.
use Rattle.std.proofs.Common.{◌≡◌, ◌≤◌, ◌<◌, List, [], ◌∷◌, refl, ap, sym, arith, drop, length, Option, Some, None}
use Rattle.std.specs.Prelude.{MatchOption}
use Rattle.std.specs.Borrow.{Bor}
use Rattle.std.specs.Slice.{IsItemAt}

pub first_is : {X : Type 0} (xs : List X) (r : Option (Bor X)) → IsItemAt xs 0 r → MatchOption r (xs ≡ []) (λ x. xs ≡ x.now ∷ drop 1 xs)
first_is [] None h = refl
first_is (y ∷ ys) None h = absurd (let few : length (y ∷ ys) ≤ 0 = h.3 in omega (arith, few))
first_is [] (Some b) h = absurd (let some : 0 < 0 = h.3.0 in omega (arith, some))
first_is (y ∷ ys) (Some b) h = ap (λ z. z ∷ ys) (sym h.1)
