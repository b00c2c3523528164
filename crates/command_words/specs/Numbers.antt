-- Numbers of options: 1 to 20 decimal digits.
use Rattle.std.specs.Prelude.{ℕ, ◌+◌, ◌*◌, ◌-◌, Bool, ◌&&◌, if◌then◌else◌, nat_le, List, [], ◌∷◌, length, Option, Some, None}
use Rattle.std.specs.List.{list_all}

abbrev pub is_digit : ℕ → Bool
is_digit b = nat_le 48 b && nat_le b 57

-- the number that digits spell, behind those of n
abbrev pub number_from : ℕ → List ℕ → ℕ
number_from n [] = n
number_from n (d ∷ more) = number_from (n * 10 + (d - 48)) more

abbrev pub is_number : List ℕ → Bool
is_number text = nat_le 1 (length text) && nat_le (length text) 20 && list_all is_digit text

abbrev pub at_most : ℕ → ℕ → Option ℕ
at_most high n = if nat_le n high then Some n else None

abbrev pub within : ℕ → ℕ → ℕ → Option ℕ
within low high n = if nat_le low n && nat_le n high then Some n else None

-- a number between two bounds, both of them included
unfoldable pub number_in : ℕ → ℕ → List ℕ → Option ℕ
number_in low high text = if is_number text then within low high (number_from 0 text) else None

-- the same number digit by digit, refused as soon as it is too large
abbrev pub digit_within : ℕ → Option ℕ → ℕ → Option ℕ
digit_within high None d = None
digit_within high (Some n) d = at_most high (n * 10 + (d - 48))

abbrev pub digits_within : ℕ → Option ℕ → List ℕ → Option ℕ
digits_within high number [] = number
digits_within high number (d ∷ more) = digits_within high (digit_within high number d) more
