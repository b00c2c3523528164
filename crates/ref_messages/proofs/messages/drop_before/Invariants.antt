use Rattle.std.proofs.Common.{◌≡◌, length}
use Rattle.std.specs.List.Sorted.{IsStrictlySortedBy}
use Rattle.std.specs.Map.{keys_of}
use Rattle.ref_messages.specs.Queue.{key_order, not_before}
use Rattle.ref_messages.proofs.messages.drop_before.Given as goal

abbrev pub invariant-entries : goal.invariant-entries
invariant-entries l = (not_before l.k l.held.entries ≡ not_before l.k l.fn.held.entries) × IsStrictlySortedBy key_order (keys_of l.held.entries)

abbrev pub decreases-entries : goal.decreases-entries
decreases-entries l = length l.held.entries
