use Rattle.std.proofs.Common.{arith, ap, ◌∙◌, ◌+◌, ◌^◌, ◌-◌, min}
use Rattle.job_tree.specs.Tokens.{number_from}
use Rattle.chare_syntax.proofs.Skips.{digit_next, digits_end}
use Rattle.chare_syntax.proofs.lexer.number_of.Goals as goal

pub digits-preserved : goal.digits-preserved
digits-preserved c = record {
  told = digit_next c.args.digits.now (2 ^ 64 - 1) c.digits.digit-index c.digits.value c.saturating_sub-digit.result c.saturating_add-value.result (min (number_from 0 c.args.digits.now) (2 ^ 64 - 1))
      c.digits-test.true c.saturating_sub-digit.ensures (c.saturating_add-value.ensures ∙ ap (λ k. min (k + c.saturating_sub-digit.result) (2 ^ 64 - 1)) c.saturating_mul.ensures) c.digits.invariant.told;
  fits = omega (arith, c.saturating_add-value.ensures);
}

pub returns : goal.returns
returns c = digits_end c.args.digits.now (2 ^ 64 - 1) c.digits.value c.digits.digit-index (min (number_from 0 c.args.digits.now) (2 ^ 64 - 1)) c.digits-test.false (omega arith) c.digits.invariant.told
