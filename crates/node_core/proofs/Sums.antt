-- Facts on sums over lists.
use Rattle.std.proofs.Common.{◌≡◌, ℕ, zero, suc, ◌+◌, List, [], ◌∷◌, ◌++◌, map, length, refl, ap, arith, Some, None}
use Rattle.std.specs.Prelude.{slice_get, slice_set}
use Rattle.std.proofs.lemmas.Option.{same_Some}
use Rattle.node_core.specs.Costs.{sum}

pub sum_append : {A : Type 0} (f : A → ℕ) (xs ys : List A) → sum f (xs ++ ys) ≡ sum f xs + sum f ys
sum_append f [] ys = omega arith
sum_append f (x ∷ xs) ys = omega (arith, sum_append f xs ys)

-- after a change at a place
pub sum_set : {A : Type 0} (f : A → ℕ) (xs : List A) (i : ℕ) (x y : A) → slice_get xs i ≡ Some x → sum f (slice_set xs i y) + f x ≡ sum f xs + f y
sum_set f [] i x y h = absurd (let q : None ≡ Some x = h in cc)
sum_set f (z ∷ xs) zero x y h = let same : f z ≡ f x = ap f (same_Some z x h) in omega (arith, same)
sum_set f (z ∷ xs) (suc i) x y h = omega (arith, sum_set f xs i x y h)

-- after a change that no count shows
pub sum_map : {A : Type 0} (f : A → ℕ) (g : A → A) (xs : List A) → ((x : A) → f (g x) ≡ f x) → sum f (map g xs) ≡ sum f xs
sum_map f g [] same = refl
sum_map f g (x ∷ xs) same = omega (arith, same x, sum_map f g xs same)

-- where each counts one
pub sum_ones : {A B : Type 0} (f : B → ℕ) (g : A → B) (xs : List A) → ((x : A) → f (g x) ≡ 1) → sum f (map g xs) ≡ length xs
sum_ones f g [] one = refl
sum_ones f g (x ∷ xs) one = omega (arith, one x, sum_ones f g xs one)
