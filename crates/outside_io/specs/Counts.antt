-- Counts of calls and of faults, up to the greatest `u64`.
use Rattle.std.specs.Prelude.{ℕ, ◌+◌, ◌-◌, ◌^◌, ◌≤◌, min}

-- one more, up to the greatest
abbrev pub raised : ℕ → ℕ
raised count = min (count + 1) (2 ^ 64 - 1)

-- a count rose, unless it was the greatest, where it stays
abbrev pub Rose : ℕ → ℕ → Type 0
Rose before now = raised before ≤ now
