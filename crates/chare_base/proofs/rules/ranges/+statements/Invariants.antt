use Rattle.std.proofs.Common.{◌≡◌, drop, map}
use Rattle.chare_base.specs.Ranges.{all_in, stmt_in_range}
use Rattle.chare_base.proofs.rules.ranges.+statements.Given as goal

abbrev pub invariant-block_in_range-loop-stmt : goal.invariant-block_in_range-loop-stmt
invariant-block_in_range-loop-stmt l =
    all_in (map (stmt_in_range l.states l.values) (drop l.stmt-index l.block)) l.loops ≡ all_in (map (stmt_in_range l.states l.values) l.block) l.loops
