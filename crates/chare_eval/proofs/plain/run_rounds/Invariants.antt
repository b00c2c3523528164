use Rattle.std.proofs.Common.{◌≡◌}
use Rattle.chare_eval.specs.Tables.{rounds_run, tables_of}
use Rattle.chare_eval.proofs.plain.run_rounds.Given as goal

abbrev pub invariant-loop-k : goal.invariant-loop-k
invariant-loop-k l = record { states = l.all; tables = tables_of l.mail } ≡ rounds_run l.plan l.k (record { states = l.fn.all; tables = tables_of l.fn.mail })
