use Rattle.std.proofs.Common.{◌≡◌, ◌≤◌, length}
use Rattle.job_tree.specs.declared.token.Mark.TheVariants as marks
use Rattle.job_tree.specs.Readers.{is_mark, many}
use Rattle.job_tree.specs.Reading.{behind, expr_at}
use Rattle.job_tree.proofs.Loops.{with_front}
use Rattle.chare_syntax.proofs.statements.exprs_of.Given as goal

abbrev pub invariant-values : goal.invariant-values
invariant-values l = record {
  told : with_front l.values (many (is_mark marks.Comma) (behind marks.Comma (expr_at l.levels)) l.rest) ≡ many (is_mark marks.Comma) (behind marks.Comma (expr_at l.levels)) l.tokens;
  shorter : length l.rest ≤ length l.tokens;
}

abbrev pub decreases-values : goal.decreases-values
decreases-values l = length l.rest
