use Rattle.std.proofs.Common.{◌≡◌}
use Rattle.chare_eval.specs.Tables.{elements_run, tables_of}
use Rattle.chare_eval.proofs.plain.run_elements.Given as goal

abbrev pub invariant-loop-e : goal.invariant-loop-e
invariant-loop-e l = record { states = l.all; tables = tables_of l.mail } ≡ elements_run l.plan l.s l.k l.e (record { states = l.fn.all; tables = tables_of l.fn.mail })
