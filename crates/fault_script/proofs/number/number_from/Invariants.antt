use Rattle.std.proofs.Common.{◌≡◌, ◌^◌, ◌≤◌, drop}
use Rattle.fault_script.specs.Numbers.{capped, number_from}
use Rattle.fault_script.proofs.number.number_from.Given as goal

abbrev pub invariant-digits : goal.invariant-digits
invariant-digits l = record {
  told : capped (number_from l.base l.number (drop l.digit-index l.digits)) ≡ capped (number_from l.base 0 l.digits);
  few : l.number ≤ 2 ^ 64;
}
