-- Numbers that stop at 2^64.
use Rattle.std.proofs.Common.{◌≡◌, ℕ, ◌+◌, ◌*◌, ◌^◌, ◌<◌, ◌≤◌, List, [], ◌∷◌, length, get_or, drop, add-one, drop-cons, refl, ap, sym, ◌∙◌, arith, inl, inr}
use Rattle.std.proofs.lemmas.Bool.{cases_lt}
use Rattle.std.proofs.lemmas.List.{drop_all}
use Rattle.std.proofs.lemmas.Nat.{mul-le}
use Rattle.fault_script.specs.Numbers.{capped, digit_value, number_from}

-- numbers that are the same up to 2^64 stay so with one more digit, and with others
same_digit : (base n m d : ℕ) → 1 ≤ base → capped n ≡ capped m → capped (n * base + d) ≡ capped (m * base + d)
same_digit base n m d some same =
    elim (cases_lt n (2 ^ 64)) [
      | inl small ↦ ap (λ k. capped (k * base + d)) (let e : n ≡ m = omega arith in e)
      | inr large ↦ large_digit large (grows n) (grows m)
    ]
  where
    grows : (k : ℕ) → k ≤ k * base
    grows k = let grown : k * 1 ≤ k * base = mul-le k 1 k base (omega arith) some in omega (arith, grown)

    large_digit : 2 ^ 64 ≤ n → n ≤ n * base → m ≤ m * base → capped (n * base + d) ≡ capped (m * base + d)
    large_digit large here there = omega arith

same_number : (base n m : ℕ) (digits : List ℕ) → 1 ≤ base → capped n ≡ capped m → capped (number_from base n digits) ≡ capped (number_from base m digits)
same_number base n m [] some same = same
same_number base n m (d ∷ more) some same = same_number base (n * base + digit_value d) (m * base + digit_value d) more some (same_digit base n m (digit_value d) some same)

digit_at : (digits : List ℕ) (i : ℕ) → i < length digits → drop i digits ≡ get_or digits i 0 ∷ drop (i + 1) digits
digit_at digits i h = rw (add-one, drop-cons digits i 0) refl

-- the digit at a place, and those behind it
pub digit_next : (base : ℕ) (digits : List ℕ) (i n m whole : ℕ) → 1 ≤ base → i < length digits → m ≡ capped (n * base + digit_value (get_or digits i 0)) →
    capped (number_from base n (drop i digits)) ≡ whole → capped (number_from base m (drop (i + 1) digits)) ≡ whole
digit_next base digits i n m whole some h e told =
    let same : capped m ≡ capped (n * base + digit_value (get_or digits i 0)) = omega (arith, e) in
    same_number base m (n * base + digit_value (get_or digits i 0)) (drop (i + 1) digits) some same
    ∙ ap (λ l. capped (number_from base n l)) (sym (digit_at digits i h)) ∙ told

pub digits_end : (base : ℕ) (digits : List ℕ) (i n whole : ℕ) → length digits ≤ i → n ≤ 2 ^ 64 → capped (number_from base n (drop i digits)) ≡ whole → n ≡ whole
digits_end base digits i n whole h few told = (let e : n ≡ capped n = omega arith in e) ∙ ap (λ l. capped (number_from base n l)) (sym (drop_all i digits h)) ∙ told
