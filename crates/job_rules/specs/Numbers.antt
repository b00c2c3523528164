-- Numbers of a tree as a plan keeps them: each stops at the greatest that its place holds.
use Rattle.std.specs.Prelude.{ℕ, min, ℤ, pos, ◌-ℤ◌, Option, Some, None}
use Rattle.job_tree.specs.declared.tree.SignedNum.{SignedNum}

abbrev pub narrow8 : ℕ → ℕ
narrow8 n = min n 255

abbrev pub narrow16 : ℕ → ℕ
narrow16 n = min n 65535

abbrev pub narrow32 : ℕ → ℕ
narrow32 n = min n 4294967295

abbrev pub narrow63 : ℕ → ℕ
narrow63 n = min n 9223372036854775807

-- a number of something, the greatest where there is none
abbrev pub number16 : Option ℕ → ℕ
number16 (Some n) = narrow16 n
number16 None = 65535

-- a number, which may stand behind a minus; one of a text is at most 9,223,372,036,854,775,807
abbrev pub signed : Option ℕ → ℕ → ℤ
signed None n = pos n
signed (Some at) n = pos 0 -ℤ pos n

-- a number of 64 bits, and one from -127 to 127
abbrev pub signed64 : SignedNum → ℤ
signed64 n = signed n.minus (narrow63 n.number.value)

abbrev pub signed8 : SignedNum → ℤ
signed8 n = signed n.minus (min n.number.value 127)
