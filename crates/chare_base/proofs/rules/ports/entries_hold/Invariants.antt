use Rattle.std.proofs.Common.{◌≡◌, drop}
use Rattle.std.specs.Prelude.{◌&&◌}
use Rattle.chare_base.specs.Ports.{entries_from}
use Rattle.chare_base.proofs.rules.ports.entries_hold.Given as goal

-- what holds so far, and of what is left
abbrev pub invariant-loop-number : goal.invariant-loop-number
invariant-loop-number l = (l.holds && entries_from l.arrays l.number (drop l.number l.entries)) ≡ entries_from l.arrays 0 l.entries
