use Rattle.std.proofs.Common.{arith}
use Rattle.job_tree.specs.declared.token.Mark.TheVariants as marks
use Rattle.job_tree.specs.Readers.{is_mark, many}
use Rattle.job_tree.specs.Reading.{behind, name_at}
use Rattle.job_tree.proofs.Loops.{loop_next, behind_ok}
use Rattle.job_tree.proofs.OfStatements.{names_shrinks}
use Rattle.chare_syntax.proofs.steps.more_names_of.Goals as goal

pub names-preserved : goal.names-preserved
names-preserved c = record {
  told = loop_next (is_mark marks.Comma) (behind marks.Comma (name_at)) names_shrinks c.names.names c.push.new.self c.names.rest.now c.in_ok-name.name c.in_ok-name.after.now (many (is_mark marks.Comma) (behind marks.Comma name_at) c.args.tokens.now)
      c.names-test.ensures (behind_ok marks.Comma (name_at) c.names.rest.now c.in_ok-after.field-0-0 c.in_ok-after.after.now c.in_ok-name.name c.in_ok-name.after.now c.in_ok-after.ensures.exact c.in_ok-name.ensures.exact) c.in_ok-push.ensures.ok c.names.invariant.told;
  shorter = omega (arith, c.in_ok-after.ensures.shorter, c.in_ok-name.ensures.shorter);
}
