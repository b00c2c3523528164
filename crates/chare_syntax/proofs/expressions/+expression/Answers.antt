use Rattle.std.proofs.Common.{arith}
use Rattle.job_tree.specs.declared.token.Mark.TheVariants as marks
use Rattle.job_tree.specs.Readers.{is_mark, many}
use Rattle.job_tree.specs.Reading.{behind, is_add, is_mul, conj_with, test_at, unary_at, sum_term_with, product_term_with}
use Rattle.job_tree.proofs.Loops.{loop_next, behind_ok}
use Rattle.job_tree.proofs.OfExpressions.{or_shrinks, and_shrinks, sum_term_shrinks, product_term_shrinks}
use Rattle.chare_syntax.proofs.expressions.+expression.Goals as goal

pub conjs_of-conjs-preserved : goal.conjs_of-conjs-preserved
conjs_of-conjs-preserved t c = record {
  told = loop_next (is_mark marks.Or) (behind marks.Or (conj_with (test_at c.args.levels))) (or_shrinks c.args.levels) c.conjs.conjs c.push.new.self c.conjs.rest.now c.in_ok-conj.conj c.in_ok-conj.after.now
      (many (is_mark marks.Or) (behind marks.Or (conj_with (test_at c.args.levels))) c.args.tokens.now) c.conjs-test.ensures
      (behind_ok marks.Or (conj_with (test_at c.args.levels)) c.conjs.rest.now c.in_ok-after.field-0-0 c.in_ok-after.after.now c.in_ok-conj.conj c.in_ok-conj.after.now c.in_ok-after.ensures.exact c.in_ok-conj.ensures.exact) c.in_ok-push.ensures.ok c.conjs.invariant.told;
  shorter = omega (arith, c.in_ok-after.ensures.shorter, c.in_ok-conj.ensures.shorter);
}

pub tests_of-tests-preserved : goal.tests_of-tests-preserved
tests_of-tests-preserved t c = record {
  told = loop_next (is_mark marks.And) (behind marks.And (test_at c.args.levels)) (and_shrinks c.args.levels) c.tests.tests c.push.new.self c.tests.rest.now c.in_ok-test.test c.in_ok-test.after.now
      (many (is_mark marks.And) (behind marks.And (test_at c.args.levels)) c.args.tokens.now) c.tests-test.ensures
      (behind_ok marks.And (test_at c.args.levels) c.tests.rest.now c.in_ok-after.field-0-0 c.in_ok-after.after.now c.in_ok-test.test c.in_ok-test.after.now c.in_ok-after.ensures.exact c.in_ok-test.ensures.exact) c.in_ok-push.ensures.ok c.tests.invariant.told;
  shorter = omega (arith, c.in_ok-after.ensures.shorter, c.in_ok-test.ensures.shorter);
}

pub sum_terms_of-terms-preserved : goal.sum_terms_of-terms-preserved
sum_terms_of-terms-preserved t c = record {
  told = loop_next is_add (sum_term_with (unary_at c.args.levels)) (sum_term_shrinks c.args.levels) c.terms.terms c.push.new.self c.terms.rest.now c.in_ok-term.term c.in_ok-term.after.now (many is_add (sum_term_with (unary_at c.args.levels)) c.args.tokens.now)
      c.terms-test.ensures c.in_ok-term.ensures.exact c.in_ok-push.ensures.ok c.terms.invariant.told;
  shorter = omega (arith, c.in_ok-term.ensures.shorter);
}

pub product_terms_of-terms-preserved : goal.product_terms_of-terms-preserved
product_terms_of-terms-preserved t c = record {
  told = loop_next is_mul (product_term_with (unary_at c.args.levels)) (product_term_shrinks c.args.levels) c.terms.terms c.push.new.self c.terms.rest.now c.in_ok-term.term c.in_ok-term.after.now (many is_mul (product_term_with (unary_at c.args.levels)) c.args.tokens.now)
      c.terms-test.ensures c.in_ok-term.ensures.exact c.in_ok-push.ensures.ok c.terms.invariant.told;
  shorter = omega (arith, c.in_ok-term.ensures.shorter);
}
