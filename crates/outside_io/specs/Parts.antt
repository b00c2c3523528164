-- What was moved before a fault, where the bytes are told.
use Rattle.std.specs.Prelude.{ℕ, ◌<◌, ◌≤◌, List, Option, length, take}
use Rattle.std.specs.Io.KnownBytes.{Consumes, Appends}

-- bytes were taken from the front, and no more than most
abbrev pub ConsumesPart : Option (List ℕ) → Option (List ℕ) → ℕ → Type 0
ConsumesPart old new most = (bytes : List ℕ) × (length bytes ≤ most) × Consumes old new bytes

-- bytes from the front of a text were given, and not all
abbrev pub AppendsPart : Option (List ℕ) → Option (List ℕ) → List ℕ → Type 0
AppendsPart old new text = (n : ℕ) × (n < length text) × Appends old new (take n text)
