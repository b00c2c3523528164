-- Numbers of a script, of whatever size.
use Rattle.std.specs.Prelude.{ℕ, ◌+◌, ◌-◌, ◌*◌, ◌^◌, min, Bool, ◌==◌, ◌&&◌, ◌||◌, not, if◌then◌else◌, nat_le, List, [], ◌∷◌, length, take, drop, codes, Option, Some, None}
use Rattle.std.specs.List.{list_all}
use Rattle.std.specs.Str.{bytes_eq}

-- `0` to `9`
abbrev pub is_digit : ℕ → Bool
is_digit b = nat_le 48 b && nat_le b 57

-- `a` to `f`, and `A` to `F`
abbrev pub is_hex_letter : ℕ → Bool
is_hex_letter b = (nat_le 97 b && nat_le b 102) || (nat_le 65 b && nat_le b 70)

abbrev pub is_hex_digit : ℕ → Bool
is_hex_digit b = is_digit b || is_hex_letter b

-- what a digit counts; letters go on from 10, whichever their case
abbrev pub digit_value : ℕ → ℕ
digit_value b = if nat_le b 57 then b - 48 else (if nat_le b 70 then b - 55 else b - 87)

-- the number that digits spell to a base, behind those of n
abbrev pub number_from : ℕ → ℕ → List ℕ → ℕ
number_from base n [] = n
number_from base n (d ∷ more) = number_from base (n * base + digit_value d) more

-- a word of one or more such digits
abbrev pub is_all : (ℕ → Bool) → List ℕ → Bool
is_all digit word = not (length word == 0) && list_all digit word

-- the number of a word of decimal digits
unfoldable pub number : List ℕ → Option ℕ
number word = if is_all is_digit word then Some (number_from 10 0 word) else None

-- the number of a word of hexadecimal digits
unfoldable pub hexadecimal : List ℕ → Option ℕ
hexadecimal word = if is_all is_hex_digit word then Some (number_from 16 0 word) else None

-- the number of a mask: decimal digits, or `0x` and hexadecimal digits
unfoldable pub mask : List ℕ → Option ℕ
mask word = if bytes_eq (take 2 word) (codes "0x") then hexadecimal (drop 2 word) else number word

-- how a number is held: all above 2^64 - 1 as 2^64
abbrev pub capped : ℕ → ℕ
capped n = min n (2 ^ 64)
