use Rattle.std.proofs.Common.{length}
use Rattle.conductor_core.proofs.opening.+set_of_all.Given as goal

abbrev pub decreases-set_of_all : goal.decreases-set_of_all
decreases-set_of_all l = length l.lines.now
