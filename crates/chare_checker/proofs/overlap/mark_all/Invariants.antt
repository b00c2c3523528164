use Rattle.std.proofs.Common.{◌≡◌, drop}
use Rattle.chare_checker.specs.FirstUses.{all_marked}
use Rattle.chare_checker.proofs.overlap.mark_all.Given as goal

abbrev pub invariant-loop-state_use : goal.invariant-loop-state_use
invariant-loop-state_use l = all_marked l.writes l.table (drop l.state_use-index l.uses) ≡ all_marked l.writes l.fn.table l.uses
