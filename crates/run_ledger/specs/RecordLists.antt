-- Lists of records with reserved room.
use Rattle.std.specs.Prelude.{ℕ, List}
use Rattle.run_ledger.specs.declared.record.Record.{Record}

-- records in order, and how many more can be appended without memory
pub record RecordList : Type 0 where
  pub items : List Record
  pub room : ℕ
