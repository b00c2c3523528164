use Rattle.std.proofs.Common.{◌≡◌, drop, map, true, false}
use Rattle.chare_eval.specs.Value.{all_from, any_from, factor_of, product_from, sum_from, term_of, value_of}
use Rattle.chare_eval.proofs.value.+expressions.Given as goal

-- what is left of the operands takes what there is to the whole
abbrev pub invariant-sum-loop-other : goal.invariant-sum-loop-other
invariant-sum-loop-other l = sum_from (map term_of (drop l.other-index l.others)) l.scene l.cells l.sum ≡ sum_from (map term_of l.others) l.scene l.cells l.fn.first

abbrev pub invariant-product-loop-other : goal.invariant-product-loop-other
invariant-product-loop-other l = product_from (map factor_of (drop l.other-index l.others)) l.scene l.cells l.product ≡ product_from (map factor_of l.others) l.scene l.cells l.fn.first

abbrev pub invariant-all-loop-e : goal.invariant-all-loop-e
invariant-all-loop-e l = all_from (map value_of (drop l.e-index l.operands)) l.scene l.cells l.holds l.slip ≡ all_from (map value_of l.operands) l.scene l.cells true 0

abbrev pub invariant-any-loop-e : goal.invariant-any-loop-e
invariant-any-loop-e l = any_from (map value_of (drop l.e-index l.operands)) l.scene l.cells l.holds l.slip ≡ any_from (map value_of l.operands) l.scene l.cells false 0
