use Rattle.std.proofs.Common.{arith}
use Rattle.job_tree.specs.declared.token.Mark.TheVariants as marks
use Rattle.job_tree.specs.Readers.{is_mark}
use Rattle.job_tree.specs.Reading.{array_at, arrays_at}
use Rattle.job_tree.proofs.Loops.{loop_next}
use Rattle.job_tree.proofs.OfDeclarations.{array_shrinks}
use Rattle.chare_syntax.proofs.declarations.arrays_of.Goals as goal

pub arrays-preserved : goal.arrays-preserved
arrays-preserved c = record {
  told = loop_next (is_mark marks.Array) (array_at c.args.levels) (array_shrinks c.args.levels) c.arrays.arrays c.push-in-arrays.new.self c.arrays.rest.now c.in_ok-array.array c.in_ok-array.after.now (arrays_at c.args.levels c.args.tokens.now)
      c.arrays-test.ensures c.in_ok-array.ensures.exact c.in_ok-push-2.ensures.ok c.arrays.invariant.told;
  shorter = omega (arith, c.in_ok-array.ensures.shorter);
}
