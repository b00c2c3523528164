use Rattle.std.proofs.Common.{◌≡◌, ◌+◌, ◌-◌, ◌≤◌, length, drop, vec_len}
use Rattle.std.specs.Prelude.{vec_capacity}
use Rattle.chare_eval.specs.Block.{top_acts}
use Rattle.chare_eval.proofs.block.run_top.Given as goal

abbrev pub invariant-loop-stmt : goal.invariant-loop-stmt
invariant-loop-stmt l = record {
  told : top_acts l.plan l.e.0 (drop l.stmt-index l.block) (record { run = record { scene = l.scene; cells = l.cells; slip = l.slip }; sent = l.sent.items })
      ≡ top_acts l.plan l.e.0 l.block (record { run = record { scene = l.fn.scene; cells = l.fn.cells; slip = l.fn.slip }; sent = l.fn.sent.items });
  room : vec_len l.sent + (length l.block - l.stmt-index) ≤ vec_capacity l.sent;
}
