use Rattle.fault_script.specs.Numbers.{capped, number_from}
use Rattle.fault_script.proofs.Capping.{digit_next, digits_end}
use Rattle.fault_script.proofs.number.number_from.Goals as goal

pub digits-preserved : goal.digits-preserved
digits-preserved c = record {
  told = digit_next c.args.base c.args.digits.now c.digits.digit-index c.digits.number c.with_digit-number.result (capped (number_from c.args.base 0 c.args.digits.now)) c.requires.some c.digits-test.true
      c.with_digit-number.ensures.exact c.digits.invariant.told;
  few = c.with_digit-number.ensures.few;
}

pub returns : goal.returns
returns c =
    digits_end c.args.base c.args.digits.now c.digits.digit-index c.digits.number (capped (number_from c.args.base 0 c.args.digits.now)) c.digits-test.false c.digits.invariant.few c.digits.invariant.told
