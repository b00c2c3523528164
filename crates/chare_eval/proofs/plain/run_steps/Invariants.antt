use Rattle.std.proofs.Common.{◌≡◌}
use Rattle.chare_eval.specs.Tables.{steps_run, tables_of}
use Rattle.chare_eval.proofs.plain.run_steps.Given as goal

abbrev pub invariant-loop-s : goal.invariant-loop-s
invariant-loop-s l = record { states = l.all; tables = tables_of l.mail } ≡ steps_run l.plan l.k l.s (record { states = l.fn.all; tables = tables_of l.fn.mail })
