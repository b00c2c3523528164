use Rattle.std.proofs.Common.{◌≡◌, ◌≤◌, length}
use Rattle.job_tree.specs.declared.token.Mark.TheVariants as marks
use Rattle.job_tree.specs.Readers.{is_mark, many}
use Rattle.job_tree.specs.Reading.{behind, name_at}
use Rattle.job_tree.proofs.Loops.{with_front}
use Rattle.chare_syntax.proofs.steps.more_names_of.Given as goal

abbrev pub invariant-names : goal.invariant-names
invariant-names l = record {
  told : with_front l.names (many (is_mark marks.Comma) (behind marks.Comma (name_at)) l.rest) ≡ many (is_mark marks.Comma) (behind marks.Comma name_at) l.tokens;
  shorter : length l.rest ≤ length l.tokens;
}

abbrev pub decreases-names : goal.decreases-names
decreases-names l = length l.rest
