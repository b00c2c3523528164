use Rattle.std.proofs.Common.{arith}
use Rattle.job_tree.specs.declared.token.Mark.TheVariants as marks
use Rattle.job_tree.specs.Readers.{is_mark, many}
use Rattle.job_tree.specs.Reading.{behind, expr_at}
use Rattle.job_tree.proofs.Loops.{loop_next, behind_ok}
use Rattle.job_tree.proofs.OfStatements.{values_shrinks}
use Rattle.chare_syntax.proofs.statements.exprs_of.Goals as goal

pub values-preserved : goal.values-preserved
values-preserved c = record {
  told = loop_next (is_mark marks.Comma) (behind marks.Comma (expr_at c.args.levels)) (values_shrinks c.args.levels) c.values.values c.push.new.self c.values.rest.now c.in_ok-value.value c.in_ok-value.after.now (many (is_mark marks.Comma) (behind marks.Comma (expr_at c.args.levels)) c.args.tokens.now)
      c.values-test.ensures (behind_ok marks.Comma (expr_at c.args.levels) c.values.rest.now c.in_ok-after.field-0-0 c.in_ok-after.after.now c.in_ok-value.value c.in_ok-value.after.now c.in_ok-after.ensures.exact c.in_ok-value.ensures.exact) c.in_ok-push.ensures.ok c.values.invariant.told;
  shorter = omega (arith, c.in_ok-after.ensures.shorter, c.in_ok-value.ensures.shorter);
}
