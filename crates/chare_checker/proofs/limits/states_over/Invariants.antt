use Rattle.std.proofs.Common.{◌≡◌, drop}
use Rattle.job_rules.specs.Limits.{states_over}
use Rattle.chare_checker.proofs.limits.states_over.Given as goal

abbrev pub invariant-loop-i : goal.invariant-loop-i
invariant-loop-i l = states_over l.size l.i l.cells l.all_cells l.found (drop l.i l.states) ≡ states_over l.size 0 0 l.fn.all_cells l.fn.found l.states
