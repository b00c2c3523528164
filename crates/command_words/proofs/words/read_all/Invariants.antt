use Rattle.std.proofs.Common.{◌≡◌, drop, map, IfSome, None, Some}
use Rattle.std.specs.String.{string_bytes}
use Rattle.command_words.specs.Grammar.{Fit, none_given, words_read}
use Rattle.command_words.proofs.words.read_all.Given as goal

abbrev pub invariant-loop-word : goal.invariant-loop-word
invariant-loop-word l =
    (words_read l.reading (map string_bytes (drop l.word-index l.words)) ≡ words_read (Some (record { given = none_given; waits = None })) (map string_bytes l.words)) × IfSome l.reading (λ r. Fit r.given)
