use Rattle.std.proofs.Common.{arith}
use Rattle.job_tree.specs.declared.token.Mark.TheVariants as marks
use Rattle.job_tree.specs.Readers.{is_mark}
use Rattle.job_tree.specs.Reading.{step_at, steps_at}
use Rattle.job_tree.proofs.Loops.{loop_next}
use Rattle.job_tree.proofs.OfDeclarations.{step_shrinks}
use Rattle.chare_syntax.proofs.steps.steps_of.Goals as goal

pub steps-preserved : goal.steps-preserved
steps-preserved c = record {
  told = loop_next (is_mark marks.Step) (step_at c.args.levels) (step_shrinks c.args.levels) c.steps.steps c.push-in-steps.new.self c.steps.rest.now c.in_ok-step.step c.in_ok-step.after.now (steps_at c.args.levels c.args.tokens.now)
      c.steps-test.ensures c.in_ok-step.ensures.exact c.in_ok-push-2.ensures.ok c.steps.invariant.told;
  shorter = omega (arith, c.in_ok-step.ensures.shorter);
}
