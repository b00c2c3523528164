use Rattle.std.proofs.Common.{◌≡◌, drop, map}
use Rattle.chare_base.specs.Uses.{any_of, stmt_writes}
use Rattle.chare_base.proofs.rules.overlap.+writes.Given as goal

abbrev pub invariant-writes-loop-stmt : goal.invariant-writes-loop-stmt
invariant-writes-loop-stmt l = any_of (map stmt_writes (drop l.stmt-index l.block)) l.range ≡ any_of (map stmt_writes l.block) l.range
