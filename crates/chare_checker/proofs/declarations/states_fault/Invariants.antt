use Rattle.std.proofs.Common.{◌≡◌, drop}
use Rattle.job_rules.specs.Declarations.{states_found}
use Rattle.chare_checker.proofs.declarations.states_fault.Given as goal

abbrev pub invariant-loop-number : goal.invariant-loop-number
invariant-loop-number l = states_found l.text l.names l.array l.number l.found (drop l.number l.states) ≡ states_found l.text l.names l.array 0 l.fn.found l.states
