-- Marks of checkpoints.
use Rattle.std.specs.Prelude.{ℕ, List, length}
use Rattle.sha2.specs.Sha256.{sha256}
use Rattle.checkpoint_store.specs.declared.mark.Mark.{Mark}

-- the mark of a checkpoint of these bytes
abbrev pub mark_of : ℕ → List ℕ → Mark
mark_of k bytes = record { k = k; length = length bytes; digest = sha256 bytes }
