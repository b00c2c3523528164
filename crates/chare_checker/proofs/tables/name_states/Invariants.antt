use Rattle.std.proofs.Common.{◌≡◌, drop}
use Rattle.job_rules.specs.Tables.{states_named}
use Rattle.chare_checker.proofs.tables.name_states.Given as goal

abbrev pub invariant-loop-number : goal.invariant-loop-number
invariant-loop-number l = states_named l.text l.number l.at l.names (drop l.number l.states) ≡ states_named l.text 0 0 l.fn.names l.states
