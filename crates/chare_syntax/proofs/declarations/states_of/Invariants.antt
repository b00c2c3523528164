use Rattle.std.proofs.Common.{◌≡◌, ◌<◌, length}
use Rattle.job_tree.specs.declared.token.Mark.TheVariants as marks
use Rattle.job_tree.specs.Readers.{is_mark, many}
use Rattle.job_tree.specs.Reading.{state_at, states_at}
use Rattle.job_tree.proofs.Loops.{with_front}
use Rattle.chare_syntax.proofs.declarations.states_of.Given as goal

abbrev pub invariant-states : goal.invariant-states
invariant-states l = record {
  told : with_front l.states (many (is_mark marks.State) (state_at l.levels) l.rest) ≡ states_at l.levels l.tokens;
  shorter : length l.rest < length l.tokens;
}

abbrev pub decreases-states : goal.decreases-states
decreases-states l = length l.rest
