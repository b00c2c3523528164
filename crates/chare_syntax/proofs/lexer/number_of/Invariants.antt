use Rattle.std.proofs.Common.{◌≡◌, ◌^◌, ◌-◌, ◌<◌, min, drop}
use Rattle.job_tree.specs.Tokens.{number_from}
use Rattle.chare_syntax.proofs.lexer.number_of.Given as goal

abbrev pub invariant-digits : goal.invariant-digits
invariant-digits l = record {
  told : min (number_from l.value (drop l.digit-index l.digits)) (2 ^ 64 - 1) ≡ min (number_from 0 l.digits) (2 ^ 64 - 1);
  fits : l.value < 2 ^ 64;
}
