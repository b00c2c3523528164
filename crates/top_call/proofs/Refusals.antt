-- Places behind the end of a text.
use Rattle.std.proofs.Common.{◌≡◌, ℕ, zero, suc, List, [], ◌∷◌, length, take, refl, ap, ◌∙◌, arith}
use Rattle.std.specs.Prelude.{min, not, reverse}
use Rattle.std.specs.List.{count_by, take_while}
use Rattle.chare_checker.specs.declared.wording.Wording.{Wording}
use Rattle.chare_checker.specs.Wording.{ends_line, wording}

none_taken : (n : ℕ) → min 0 n ≡ 0
none_taken n = omega arith

one_more : (a b : ℕ) → min (suc a) (suc b) ≡ suc (min a b)
one_more a b = omega arith

abbrev empty : List ℕ
empty = []

nothing_taken : (n : ℕ) → take n empty ≡ empty
nothing_taken zero = refl
nothing_taken (suc n) = refl

-- as many items as there are, or fewer
cut : (at : ℕ) (text : List ℕ) → take (min at (length text)) text ≡ take at text
cut zero text = ap (λ n. take n text) (none_taken (length text))
cut (suc at) [] = nothing_taken (min (suc at) 0)
cut (suc at) (b ∷ more) = ap (λ n. take n (b ∷ more)) (one_more at (length more)) ∙ ap (λ l. b ∷ l) (cut at more)

-- a place behind the end counts as the end
pub cut_place : (text : List ℕ) (at code : ℕ) → wording text (min at (length text)) code ≡ wording text at code
cut_place text at code = ap before (cut at text)
  where
    before : List ℕ → Wording
    before front = record { line = suc (count_by ends_line front); column = suc (length (take_while (λ b. not (ends_line b)) (reverse front))); code = code }
