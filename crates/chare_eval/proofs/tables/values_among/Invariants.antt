use Rattle.std.proofs.Common.{◌≡◌, drop}
use Rattle.chare_eval.specs.Tables.{letter_at}
use Rattle.chare_eval.proofs.tables.values_among.Given as goal

abbrev pub invariant-loop-letter : goal.invariant-loop-letter
invariant-loop-letter l = letter_at (drop l.letter-index l.letters) l.entry.0 ≡ letter_at l.letters l.entry.0
