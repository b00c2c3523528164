-- What stays so as reading goes on.
use Rattle.std.proofs.Common.{◌≡◌, ℕ, ◌+◌, ◌*◌, ◌-◌, ◌<◌, ◌≤◌, nat_le, true, false, if◌then◌else◌, List, [], ◌∷◌, Some, None, refl, ap, sym, ◌∙◌, arith, Bool}
use Rattle.std.proofs.lemmas.Bool.{le-leb, leb-false, lt-leb}
use Rattle.command_words.specs.Numbers.{at_most, digits_within, number_from}

grows : (n : ℕ) (more : List ℕ) → n ≤ number_from n more
grows n [] = omega arith
grows n (d ∷ more) = let next : n * 10 + (d - 48) ≤ number_from (n * 10 + (d - 48)) more = grows (n * 10 + (d - 48)) more in omega (arith, next)

above : (high n : ℕ) → high < n → at_most high n ≡ None
above high n h = let no : nat_le n high ≡ false = lt-leb n high h in rw no refl

below_by : (high n : ℕ) (b : Bool) → nat_le n high ≡ b → (if b then Some n else None) ≡ None → high < n
below_by high n true is h = absurd (let q : Some n ≡ None = h in cc)
below_by high n false is h = leb-false n high is

below : (high n : ℕ) → at_most high n ≡ None → high < n
below high n h = below_by high n (nat_le n high) refl h

-- a number that is too large stays so with more digits
pub still_exceeds : (high n : ℕ) (more : List ℕ) → at_most high n ≡ None → at_most high (number_from n more) ≡ None
still_exceeds high n more h = let over : high < n = below high n h in let grown : n ≤ number_from n more = grows n more in above high (number_from n more) (omega (arith, over, grown))

none_within : (high : ℕ) (more : List ℕ) → digits_within high None more ≡ None
none_within high [] = refl
none_within high (d ∷ more) = none_within high more

within_by : (high n : ℕ) (more : List ℕ) (b : Bool) → nat_le n high ≡ b → digits_within high (if b then Some n else None) more ≡ at_most high (number_from n more)
within_by high n [] b is = ap (λ x. if x then Some n else None) (sym is)
within_by high n (d ∷ more) true is = within_by high (n * 10 + (d - 48)) more (nat_le (n * 10 + (d - 48)) high) refl
within_by high n (d ∷ more) false is = none_within high more ∙ sym (still_exceeds high n (d ∷ more) (above high n (leb-false n high is)))

-- refused as soon as it is too large, or at the end
pub same_within : (high : ℕ) (text : List ℕ) → digits_within high (Some 0) text ≡ at_most high (number_from 0 text)
same_within high text = within_by high 0 text true (le-leb 0 high (omega arith))
