use Rattle.std.proofs.Common.{◌≡◌, length}
use Rattle.chare_base.specs.Names.{distinct_by, state_name}
use Rattle.chare_base.proofs.rules.names.distinct_names.Given as goal

abbrev pub invariant-states : goal.invariant-states
invariant-states l = distinct_by state_name l.rest ≡ distinct_by state_name l.states

abbrev pub decreases-states : goal.decreases-states
decreases-states l = length l.rest
