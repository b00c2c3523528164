-- One record more, where the ledger takes it.
use Rattle.std.specs.Prelude.{ℕ, [], ◌∷◌, ◌++◌, Option, Some, None}
use Rattle.run_ledger.specs.declared.record.Record.{Record}
use Rattle.run_ledger.specs.Ledgers.{Journal, after}

abbrev pub made : Record → Option ℕ → Journal → Journal
made step None old = record { ledger = after old.ledger step; records = old.records ++ step ∷ []; spare = old.spare }
made step (Some which) old = old
