use Rattle.std.proofs.Common.{◌≡◌, ◌<◌, length}
use Rattle.job_tree.specs.declared.token.Mark.TheVariants as marks
use Rattle.job_tree.specs.Readers.{is_mark, many}
use Rattle.job_tree.specs.Reading.{part_at, parts_at}
use Rattle.job_tree.proofs.Loops.{with_front}
use Rattle.chare_syntax.proofs.steps.parts_of.Given as goal

abbrev pub invariant-parts : goal.invariant-parts
invariant-parts l = record {
  told : with_front l.parts (many (is_mark marks.When) (part_at l.levels) l.rest) ≡ parts_at l.levels l.tokens;
  shorter : length l.rest < length l.tokens;
}

abbrev pub decreases-parts : goal.decreases-parts
decreases-parts l = length l.rest
