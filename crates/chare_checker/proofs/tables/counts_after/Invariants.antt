use Rattle.std.proofs.Common.{◌≡◌, drop}
use Rattle.job_rules.specs.Tables.{counts_after}
use Rattle.chare_checker.proofs.tables.counts_after.Given as goal

abbrev pub invariant-loop-member : goal.invariant-loop-member
invariant-loop-member l = counts_after l.counts (drop l.member-index l.members) ≡ counts_after l.fn.counts l.members
