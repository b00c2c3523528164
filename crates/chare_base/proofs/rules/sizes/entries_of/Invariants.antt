use Rattle.std.proofs.Common.{◌≡◌, ◌+◌, ◌≤◌, drop}
use Rattle.chare_base.specs.Limits.{entries_of}
use Rattle.chare_base.proofs.rules.sizes.entries_of.Given as goal

abbrev pub invariant-loop-entry : goal.invariant-loop-entry
invariant-loop-entry l = record {
  told : l.count + entries_of l.array (drop l.entry-index l.entries) ≡ entries_of l.array l.entries;
  bound : l.count ≤ l.entry-index;
}
