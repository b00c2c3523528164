use Rattle.std.proofs.Common.{◌≡◌, drop, map}
use Rattle.std.specs.Prelude.{◌&&◌}
use Rattle.chare_base.specs.Ports.{all_quiet, is_quiet}
use Rattle.chare_base.proofs.rules.ports.+quiet.Given as goal

abbrev pub invariant-block_is_quiet-loop-stmt : goal.invariant-block_is_quiet-loop-stmt
invariant-block_is_quiet-loop-stmt l = (l.quiet && all_quiet (map is_quiet (drop l.stmt-index l.block))) ≡ all_quiet (map is_quiet l.block)
