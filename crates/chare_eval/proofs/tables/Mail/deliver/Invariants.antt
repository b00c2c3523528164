use Rattle.std.proofs.Common.{◌≡◌, drop}
use Rattle.chare_eval.specs.Tables.{all_delivered, tables_of}
use Rattle.chare_eval.proofs.tables.Mail.deliver.Given as goal

abbrev pub invariant-loop-outgoing : goal.invariant-loop-outgoing
invariant-loop-outgoing l = all_delivered (drop l.outgoing-index l.sent) (tables_of l.self) ≡ all_delivered l.sent (tables_of l.fn.self)
