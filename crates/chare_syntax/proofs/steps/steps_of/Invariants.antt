use Rattle.std.proofs.Common.{◌≡◌, ◌<◌, length}
use Rattle.job_tree.specs.declared.token.Mark.TheVariants as marks
use Rattle.job_tree.specs.Readers.{is_mark, many}
use Rattle.job_tree.specs.Reading.{step_at, steps_at}
use Rattle.job_tree.proofs.Loops.{with_front}
use Rattle.chare_syntax.proofs.steps.steps_of.Given as goal

abbrev pub invariant-steps : goal.invariant-steps
invariant-steps l = record {
  told : with_front l.steps (many (is_mark marks.Step) (step_at l.levels) l.rest) ≡ steps_at l.levels l.tokens;
  shorter : length l.rest < length l.tokens;
}

abbrev pub decreases-steps : goal.decreases-steps
decreases-steps l = length l.rest
