use Rattle.std.proofs.Common.{◌≡◌, ◌++◌, drop, length}
use Rattle.checkpoint_store.specs.Assembled.{merged, rests}
use Rattle.checkpoint_store.proofs.assemble.merge.Given as goal

abbrev pub invariant-loop-e : goal.invariant-loop-e
invariant-loop-e g l = record {
  told : l.out ++ merged l.plan l.e (drop l.e (g.M.Placement.place l.map)) (rests l.pieces l.ends.items) ≡ l.fn.out ++ merged l.plan 0 (g.M.Placement.place l.map) (rests l.pieces l.fn.ends.items);
  count : length l.ends.items ≡ length l.fn.ends.items;
}
