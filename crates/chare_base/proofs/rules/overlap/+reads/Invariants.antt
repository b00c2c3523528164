use Rattle.std.proofs.Common.{◌≡◌, drop, map}
use Rattle.chare_base.specs.Uses.{any_of, stmt_reads}
use Rattle.chare_base.proofs.rules.overlap.+reads.Given as goal

abbrev pub invariant-block_reads-loop-stmt : goal.invariant-block_reads-loop-stmt
invariant-block_reads-loop-stmt l = any_of (map stmt_reads (drop l.stmt-index l.block)) l.range ≡ any_of (map stmt_reads l.block) l.range
