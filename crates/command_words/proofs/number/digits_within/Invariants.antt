use Rattle.std.proofs.Common.{◌≡◌, ◌≤◌, drop, IfSome, IsTrue, Some}
use Rattle.std.specs.List.{list_all}
use Rattle.command_words.specs.Numbers.{digits_within, is_digit}
use Rattle.command_words.proofs.number.digits_within.Given as goal

abbrev pub invariant-loop-digit : goal.invariant-loop-digit
invariant-loop-digit l =
    (digits_within l.high l.number (drop l.digit-index l.text) ≡ digits_within l.high (Some 0) l.text) × IfSome l.number (λ n. n ≤ l.high) × IsTrue (list_all is_digit (drop l.digit-index l.text))
