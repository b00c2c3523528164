use Rattle.std.proofs.Common.{◌≡◌, ◌++◌, take, drop}
use Rattle.std.specs.Prelude.{map}
use Rattle.run_ledger.specs.Lines.{accepted}
use Rattle.run_ledger.proofs.line.accept.Given as goal

-- the lines that are left are as before
abbrev pub invariant-loop-i : goal.invariant-loop-i
invariant-loop-i l = take l.i l.lines.items ++ map (accepted l.k) (drop l.i l.lines.items) ≡ map (accepted l.k) l.fn.lines.items
