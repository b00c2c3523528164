use Rattle.std.proofs.Common.{◌≡◌, length}
use Rattle.chare_base.specs.Names.{distinct_entries}
use Rattle.chare_base.proofs.rules.names.distinct_entries.Given as goal

abbrev pub invariant-entries : goal.invariant-entries
invariant-entries l = distinct_entries l.rest ≡ distinct_entries l.entries

abbrev pub decreases-entries : goal.decreases-entries
decreases-entries l = length l.rest
