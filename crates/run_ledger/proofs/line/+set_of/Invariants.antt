use Rattle.std.proofs.Common.{length}
use Rattle.run_ledger.proofs.line.+set_of.Given as goal

abbrev pub decreases-set_of : goal.decreases-set_of
decreases-set_of l = length l.lines.now
