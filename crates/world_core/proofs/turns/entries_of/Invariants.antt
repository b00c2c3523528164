use Rattle.std.proofs.Common.{◌≡◌, ◌≤◌, ◌+◌, drop}
use Rattle.world_core.specs.Bounds.{entries_of}
use Rattle.world_core.proofs.turns.entries_of.Given as goal

abbrev pub invariant-loop-entry : goal.invariant-loop-entry
invariant-loop-entry l = record {
  told : l.count + entries_of l.array (drop l.entry-index l.entries) ≡ entries_of l.array l.entries;
  few : l.count ≤ l.entry-index;
}
