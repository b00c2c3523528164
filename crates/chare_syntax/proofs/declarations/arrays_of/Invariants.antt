use Rattle.std.proofs.Common.{◌≡◌, ◌<◌, length}
use Rattle.job_tree.specs.declared.token.Mark.TheVariants as marks
use Rattle.job_tree.specs.Readers.{is_mark, many}
use Rattle.job_tree.specs.Reading.{array_at, arrays_at}
use Rattle.job_tree.proofs.Loops.{with_front}
use Rattle.chare_syntax.proofs.declarations.arrays_of.Given as goal

abbrev pub invariant-arrays : goal.invariant-arrays
invariant-arrays l = record {
  told : with_front l.arrays (many (is_mark marks.Array) (array_at l.levels) l.rest) ≡ arrays_at l.levels l.tokens;
  shorter : length l.rest < length l.tokens;
}

abbrev pub decreases-arrays : goal.decreases-arrays
decreases-arrays l = length l.rest
