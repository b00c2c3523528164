use Rattle.std.proofs.Common.{◌≡◌, drop}
use Rattle.job_rules.specs.Limits.{with_all_cells}
use Rattle.chare_checker.proofs.limits.with_all_cells.Given as goal

abbrev pub invariant-loop-state : goal.invariant-loop-state
invariant-loop-state l = with_all_cells l.size l.all_cells (drop l.state-index l.states) ≡ with_all_cells l.size l.fn.all_cells l.states
