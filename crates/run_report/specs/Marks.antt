-- The marks of an ending, one after another.
use Rattle.std.specs.Prelude.{◌≡◌, List, drop, replicate, slice_get, unwrap_or}
use Rattle.chare_base.specs.declared.plan.Plan.{Plan}
use Rattle.run_ledger.specs.declared.record.Record.{Record}
use Rattle.run_ledger.specs.declared.record.Record.TheVariants.{Accept, Differ, Crash, Mend, Adopt, Both, NoSpare, Lost, Done}
use Rattle.run_ledger.specs.Ledgers.{LedgerState}
use Rattle.run_ledger.specs.Lawful.{checkpoint}
use Rattle.checkpoint_store.specs.declared.mark.Mark.{Mark}
use Rattle.checkpoint_store.specs.Marks.{mark_of}

-- the first of some marks, an empty one where there is none
abbrev pub no_mark : Mark
no_mark = record { k = 0; length = 0; digest = replicate 32 0 }

abbrev pub first_mark : List Mark → Mark
first_mark marks = unwrap_or (slice_get marks 0) no_mark

-- the marks that are left after a record
abbrev pub marks_behind : Record → List Mark → List Mark
marks_behind (Accept k) marks = drop 1 marks
marks_behind (Differ k element) marks = marks
marks_behind (Crash line) marks = marks
marks_behind (Mend replica) marks = marks
marks_behind (Adopt k from) marks = drop 1 marks
marks_behind Both marks = marks
marks_behind NoSpare marks = marks
marks_behind (Lost node) marks = marks
marks_behind Done marks = marks

-- the mark is of the checkpoint that a record makes the base
abbrev pub IsMarkAt : Plan → LedgerState → Record → Mark → Type 0
IsMarkAt p l (Accept k) mark = mark ≡ mark_of k (checkpoint p l 0 k)
IsMarkAt p l (Differ k element) mark = Unit {0}
IsMarkAt p l (Crash line) mark = Unit {0}
IsMarkAt p l (Mend replica) mark = Unit {0}
IsMarkAt p l (Adopt k from) mark = mark ≡ mark_of k (checkpoint p l from k)
IsMarkAt p l Both mark = Unit {0}
IsMarkAt p l NoSpare mark = Unit {0}
IsMarkAt p l (Lost node) mark = Unit {0}
IsMarkAt p l Done mark = Unit {0}
