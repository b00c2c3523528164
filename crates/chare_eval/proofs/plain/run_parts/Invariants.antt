use Rattle.std.proofs.Common.{◌≡◌, drop}
use Rattle.chare_eval.specs.Stage.{parts_run}
use Rattle.chare_eval.specs.Tables.{box_of, tables_of}
use Rattle.chare_eval.proofs.plain.run_parts.Given as goal

abbrev pub invariant-loop-part : goal.invariant-loop-part
invariant-loop-part l =
    parts_run l.plan l.e.0 l.s l.k (box_of l.plan (tables_of l.mail) l.e.0) (drop l.part-index l.parts) (record { cells = l.cells; sent = l.sent.items })
    ≡ parts_run l.plan l.e.0 l.s l.k (box_of l.plan (tables_of l.mail) l.e.0) l.parts (record { cells = l.fn.cells; sent = l.fn.sent.items })
