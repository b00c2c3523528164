use Rattle.std.proofs.Common.{arith}
use Rattle.job_tree.specs.declared.token.Mark.TheVariants as marks
use Rattle.job_tree.specs.Readers.{is_mark}
use Rattle.job_tree.specs.Reading.{answer_at, answers_at}
use Rattle.job_tree.proofs.Loops.{loop_next}
use Rattle.job_tree.proofs.OfDeclarations.{answer_shrinks}
use Rattle.chare_syntax.proofs.declarations.answers_of.Goals as goal

pub answers-preserved : goal.answers-preserved
answers-preserved c = record {
  told = loop_next (is_mark marks.Answer) (answer_at c.args.levels) (answer_shrinks c.args.levels) c.answers.answers c.push-in-answers.new.self c.answers.rest.now c.in_ok-answer.answer c.in_ok-answer.after.now (answers_at c.args.levels c.args.tokens.now)
      c.answers-test.ensures c.in_ok-answer.ensures.exact c.in_ok-push-2.ensures.ok c.answers.invariant.told;
  shorter = omega (arith, c.in_ok-answer.ensures.shorter);
}
