use Rattle.std.proofs.Common.{◌≡◌, length}
use Rattle.chare_base.specs.Entries.{filled}
use Rattle.chare_base.proofs.entries.filled.Given as goal

abbrev pub invariant-loop-i : goal.invariant-loop-i
invariant-loop-i l = record { told : l.values ≡ filled l.i l.value; count : length l.values ≡ 8 }
