use Rattle.std.proofs.Common.{◌≡◌, ◌+◌, ◌≤◌, drop}
use Rattle.chare_base.specs.Overlap.{users}
use Rattle.chare_base.proofs.rules.overlap.users.Given as goal

abbrev pub invariant-loop-part : goal.invariant-loop-part
invariant-loop-part l = record {
  told : l.count + users l.range (drop l.part-index l.parts) ≡ users l.range l.parts;
  bound : l.count ≤ l.part-index;
}
