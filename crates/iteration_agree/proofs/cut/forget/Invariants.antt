use Rattle.std.proofs.Common.{◌≡◌, ◌++◌, drop, take, map}
use Rattle.std.specs.Prelude.{vec_len}
use Rattle.iteration_agree.specs.Slots.{slot_unnoted}
use Rattle.iteration_agree.proofs.cut.forget.Given as goal

abbrev pub invariant-loop-i : goal.invariant-loop-i
invariant-loop-i l = record {
  told : take l.i l.slots.items ++ map slot_unnoted (drop l.i l.slots.items) ≡ map slot_unnoted l.fn.slots.items;
  count : vec_len l.slots ≡ vec_len l.fn.slots;
}
