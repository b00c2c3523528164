-- Parts of lists that reach beyond them.
use Rattle.std.proofs.Common.{◌≡◌, ℕ, zero, suc, ◌<◌, List, [], length, take, drop, refl, ap, ◌∙◌, arith}
use Rattle.std.proofs.lemmas.List.{take_all}
use Rattle.std.proofs.Math.ListN.{drop_of_length-le}

none_taken : {A : Type 0} (count : ℕ) → ◌≡◌ {A = List A} (take count []) []
none_taken zero = refl
none_taken (suc n) = refl

pub cut_none : {A : Type 0} (xs : List A) (at count : ℕ) → length xs < at → take count (drop at xs) ≡ []
cut_none xs at count h = ap (take count) (drop_of_length-le xs (omega (arith, h))) ∙ none_taken count

pub cut_rest : {A : Type 0} (xs : List A) (count : ℕ) → length xs < count → take count xs ≡ xs
cut_rest xs count h = take_all count xs (omega (arith, h))
