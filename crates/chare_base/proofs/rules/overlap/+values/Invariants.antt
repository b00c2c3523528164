use Rattle.std.proofs.Common.{◌≡◌, drop, map}
use Rattle.std.specs.Prelude.{◌||◌}
use Rattle.chare_base.specs.Uses.{any_of, reads, reads_in_term, reads_in_factor}
use Rattle.chare_base.proofs.rules.overlap.+values.Given as goal

abbrev pub invariant-any_reads-loop-value : goal.invariant-any_reads-loop-value
invariant-any_reads-loop-value l = any_of (map reads (drop l.value-index l.values)) l.range ≡ any_of (map reads l.values) l.range

-- what is found so far, or in what is left
abbrev pub invariant-reads-loop-term : goal.invariant-reads-loop-term
invariant-reads-loop-term l = (l.found || any_of (map reads_in_term (drop l.term-index l.term-items)) l.range) ≡ reads l.e l.range

abbrev pub invariant-reads-loop-factor : goal.invariant-reads-loop-factor
invariant-reads-loop-factor l = (l.found || any_of (map reads_in_factor (drop l.factor-index l.factor-items)) l.range) ≡ reads l.e l.range
