use Rattle.std.proofs.Common.{◌≡◌, ◌≤◌, length, ◌+◌, ◌*◌}
use Rattle.job_tree.specs.declared.token.Mark.TheVariants as marks
use Rattle.job_tree.specs.Readers.{is_mark, many}
use Rattle.job_tree.specs.Reading.{behind, is_add, is_mul, conj_with, test_at, unary_at, sum_term_with, product_term_with}
use Rattle.job_tree.proofs.Loops.{with_front}
use Rattle.chare_syntax.proofs.expressions.+expression.Given as goal

abbrev pub decreases-expr_of : goal.decreases-expr_of
decreases-expr_of l = 25 * l.levels + 24

abbrev pub decreases-conjs_of : goal.decreases-conjs_of
decreases-conjs_of l = 25 * l.levels + 23

abbrev pub decreases-conj_of : goal.decreases-conj_of
decreases-conj_of l = 25 * l.levels + 22

abbrev pub decreases-tests_of : goal.decreases-tests_of
decreases-tests_of l = 25 * l.levels + 21

abbrev pub decreases-test_of : goal.decreases-test_of
decreases-test_of l = 25 * l.levels + 20

abbrev pub decreases-not_of : goal.decreases-not_of
decreases-not_of l = 25 * l.levels + 19

abbrev pub decreases-compared_of : goal.decreases-compared_of
decreases-compared_of l = 25 * l.levels + 18

abbrev pub decreases-comparison_of : goal.decreases-comparison_of
decreases-comparison_of l = 25 * l.levels + 17

abbrev pub decreases-sum_of : goal.decreases-sum_of
decreases-sum_of l = 25 * l.levels + 16

abbrev pub decreases-sum_terms_of : goal.decreases-sum_terms_of
decreases-sum_terms_of l = 25 * l.levels + 15

abbrev pub decreases-sum_term_of : goal.decreases-sum_term_of
decreases-sum_term_of l = 25 * l.levels + 14

abbrev pub decreases-product_of : goal.decreases-product_of
decreases-product_of l = 25 * l.levels + 13

abbrev pub decreases-product_terms_of : goal.decreases-product_terms_of
decreases-product_terms_of l = 25 * l.levels + 12

abbrev pub decreases-product_term_of : goal.decreases-product_term_of
decreases-product_term_of l = 25 * l.levels + 11

abbrev pub decreases-unary_of : goal.decreases-unary_of
decreases-unary_of l = 25 * l.levels + 10

abbrev pub decreases-minus_of : goal.decreases-minus_of
decreases-minus_of l = 25 * l.levels + 9

abbrev pub decreases-atom_of : goal.decreases-atom_of
decreases-atom_of l = 25 * l.levels + 8

abbrev pub decreases-least_of : goal.decreases-least_of
decreases-least_of l = 25 * l.levels + 7

abbrev pub decreases-named_of : goal.decreases-named_of
decreases-named_of l = 25 * l.levels + 6

abbrev pub decreases-group_of : goal.decreases-group_of
decreases-group_of l = 25 * l.levels + 5

abbrev pub decreases-index_of : goal.decreases-index_of
decreases-index_of l = 25 * l.levels + 4

abbrev pub decreases-deeper_expr_of : goal.decreases-deeper_expr_of
decreases-deeper_expr_of l = 25 * l.levels + 3

abbrev pub decreases-deeper_test_of : goal.decreases-deeper_test_of
decreases-deeper_test_of l = 25 * l.levels + 2

abbrev pub decreases-deeper_unary_of : goal.decreases-deeper_unary_of
decreases-deeper_unary_of l = 25 * l.levels + 1

abbrev pub invariant-conjs_of-conjs : goal.invariant-conjs_of-conjs
invariant-conjs_of-conjs l = record {
  told : with_front l.conjs (many (is_mark marks.Or) (behind marks.Or (conj_with (test_at l.levels))) l.rest) ≡ many (is_mark marks.Or) (behind marks.Or (conj_with (test_at l.levels))) l.tokens;
  shorter : length l.rest ≤ length l.tokens;
}

abbrev pub decreases-conjs_of-conjs : goal.decreases-conjs_of-conjs
decreases-conjs_of-conjs l = length l.rest

abbrev pub invariant-tests_of-tests : goal.invariant-tests_of-tests
invariant-tests_of-tests l = record {
  told : with_front l.tests (many (is_mark marks.And) (behind marks.And (test_at l.levels)) l.rest) ≡ many (is_mark marks.And) (behind marks.And (test_at l.levels)) l.tokens;
  shorter : length l.rest ≤ length l.tokens;
}

abbrev pub decreases-tests_of-tests : goal.decreases-tests_of-tests
decreases-tests_of-tests l = length l.rest

abbrev pub invariant-sum_terms_of-terms : goal.invariant-sum_terms_of-terms
invariant-sum_terms_of-terms l = record {
  told : with_front l.terms (many (is_add) (sum_term_with (unary_at l.levels)) l.rest) ≡ many (is_add) (sum_term_with (unary_at l.levels)) l.tokens;
  shorter : length l.rest ≤ length l.tokens;
}

abbrev pub decreases-sum_terms_of-terms : goal.decreases-sum_terms_of-terms
decreases-sum_terms_of-terms l = length l.rest

abbrev pub invariant-product_terms_of-terms : goal.invariant-product_terms_of-terms
invariant-product_terms_of-terms l = record {
  told : with_front l.terms (many (is_mul) (product_term_with (unary_at l.levels)) l.rest) ≡ many (is_mul) (product_term_with (unary_at l.levels)) l.tokens;
  shorter : length l.rest ≤ length l.tokens;
}

abbrev pub decreases-product_terms_of-terms : goal.decreases-product_terms_of-terms
decreases-product_terms_of-terms l = length l.rest
