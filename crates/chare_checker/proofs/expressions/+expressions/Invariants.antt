use Rattle.std.proofs.Common.{◌≡◌, drop, map}
use Rattle.job_rules.specs.Notes.{in_order}
use Rattle.job_rules.specs.Expressions.{conj_walked, product_term_walked, sum_term_walked, test_walked}
use Rattle.chare_checker.proofs.expressions.+expressions.Given as goal

-- what is left takes what was noted so far to the whole
abbrev pub invariant-walk_conjs-loop-conj : goal.invariant-walk_conjs-loop-conj
invariant-walk_conjs-loop-conj l = in_order (map (conj_walked l.scope.text.now l.scope.table.now l.site l.scope.params.now l.loops) (drop l.conj-index l.conjs)) l.notes ≡ in_order (map (conj_walked l.scope.text.now l.scope.table.now l.site l.scope.params.now l.loops) l.conjs) l.fn.notes

abbrev pub invariant-walk_tests-loop-test : goal.invariant-walk_tests-loop-test
invariant-walk_tests-loop-test l = in_order (map (test_walked l.scope.text.now l.scope.table.now l.site l.scope.params.now l.loops) (drop l.test-index l.tests)) l.notes ≡ in_order (map (test_walked l.scope.text.now l.scope.table.now l.site l.scope.params.now l.loops) l.tests) l.fn.notes

abbrev pub invariant-walk_sum_terms-loop-sum_term : goal.invariant-walk_sum_terms-loop-sum_term
invariant-walk_sum_terms-loop-sum_term l = in_order (map (sum_term_walked l.scope.text.now l.scope.table.now l.site l.scope.params.now l.loops) (drop l.sum_term-index l.sum_terms)) l.notes ≡ in_order (map (sum_term_walked l.scope.text.now l.scope.table.now l.site l.scope.params.now l.loops) l.sum_terms) l.fn.notes

abbrev pub invariant-walk_product_terms-loop-product_term : goal.invariant-walk_product_terms-loop-product_term
invariant-walk_product_terms-loop-product_term l = in_order (map (product_term_walked l.scope.text.now l.scope.table.now l.site l.scope.params.now l.loops) (drop l.product_term-index l.product_terms)) l.notes ≡ in_order (map (product_term_walked l.scope.text.now l.scope.table.now l.site l.scope.params.now l.loops) l.product_terms) l.fn.notes
