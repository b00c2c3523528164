use Rattle.std.proofs.Common.{◌≡◌, ◌<◌, length}
use Rattle.job_tree.specs.declared.token.Mark.TheVariants as marks
use Rattle.job_tree.specs.Readers.{is_mark, many}
use Rattle.job_tree.specs.Reading.{answer_at, answers_at}
use Rattle.job_tree.proofs.Loops.{with_front}
use Rattle.chare_syntax.proofs.declarations.answers_of.Given as goal

abbrev pub invariant-answers : goal.invariant-answers
invariant-answers l = record {
  told : with_front l.answers (many (is_mark marks.Answer) (answer_at l.levels) l.rest) ≡ answers_at l.levels l.tokens;
  shorter : length l.rest < length l.tokens;
}

abbrev pub decreases-answers : goal.decreases-answers
decreases-answers l = length l.rest
