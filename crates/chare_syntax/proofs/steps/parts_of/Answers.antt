use Rattle.std.proofs.Common.{arith}
use Rattle.job_tree.specs.declared.token.Mark.TheVariants as marks
use Rattle.job_tree.specs.Readers.{is_mark}
use Rattle.job_tree.specs.Reading.{part_at, parts_at}
use Rattle.job_tree.proofs.Loops.{loop_next}
use Rattle.job_tree.proofs.OfDeclarations.{part_shrinks}
use Rattle.chare_syntax.proofs.steps.parts_of.Goals as goal

pub parts-preserved : goal.parts-preserved
parts-preserved c = record {
  told = loop_next (is_mark marks.When) (part_at c.args.levels) (part_shrinks c.args.levels) c.parts.parts c.push-in-parts.new.self c.parts.rest.now c.in_ok-part.part c.in_ok-part.after.now (parts_at c.args.levels c.args.tokens.now)
      c.parts-test.ensures c.in_ok-part.ensures.exact c.in_ok-push-3.ensures.ok c.parts.invariant.told;
  shorter = omega (arith, c.in_ok-part.ensures.shorter);
}
