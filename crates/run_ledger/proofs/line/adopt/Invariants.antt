use Rattle.std.proofs.Common.{◌≡◌, ◌++◌, take, drop}
use Rattle.std.specs.Prelude.{map}
use Rattle.run_ledger.specs.Lines.{adopted}
use Rattle.run_ledger.proofs.line.adopt.Given as goal

-- the lines that are left are as before
abbrev pub invariant-loop-i : goal.invariant-loop-i
invariant-loop-i l = take l.i l.lines.items ++ map (adopted l.k l.from) (drop l.i l.lines.items) ≡ map (adopted l.k l.from) l.fn.lines.items
