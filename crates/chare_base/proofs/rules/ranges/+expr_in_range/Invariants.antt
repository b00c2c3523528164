use Rattle.std.proofs.Common.{◌≡◌, drop, map}
use Rattle.std.specs.Prelude.{◌&&◌}
use Rattle.chare_base.specs.Ranges.{all_of, expr_in_range, term_in_range, factor_in_range}
use Rattle.chare_base.proofs.rules.ranges.+expr_in_range.Given as goal

-- what holds so far, and of what is left
abbrev pub invariant-loop-term : goal.invariant-loop-term
invariant-loop-term l = (l.holds && all_of (map (term_in_range l.states l.scope) (drop l.term-index l.term-items))) ≡ expr_in_range l.states l.scope l.e

abbrev pub invariant-loop-factor : goal.invariant-loop-factor
invariant-loop-factor l = (l.holds && all_of (map (factor_in_range l.states l.scope) (drop l.factor-index l.factor-items))) ≡ expr_in_range l.states l.scope l.e

abbrev pub invariant-loop-operand : goal.invariant-loop-operand
invariant-loop-operand l = (l.holds && all_of (map (expr_in_range l.states l.scope) (drop l.operand-index l.operand-items))) ≡ expr_in_range l.states l.scope l.e
