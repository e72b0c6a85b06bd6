use Rattle.textarea_wrap.proofs.Prelude.{common_steps, pow-suc, decimal_digit, length-decimal-le}
use Rattle.std.proofs.Common.{length, sym, ap, arith}
use Rattle.textarea_wrap.proofs.DigitLemmas.{length-decimal-power}
use Rattle.textarea_wrap.proofs.layout.num_digits.Goals as goal

pub returns-in-None-clause-value : goal.returns-in-None-clause-value
returns-in-None-clause-value c = rw c.in-None.ensures.none (sym (ap length (decimal_digit 0 (omega arith))))

pub returns-in-Some-clause-value : goal.returns-in-Some-clause-value
returns-in-Some-clause-value c = grind (arith, common_steps, length-decimal-power)

pub returns-in-None-clause-most : goal.returns-in-None-clause-most
returns-in-None-clause-most c = λ smaller within. length-decimal-le 1 smaller (omega arith) (omega (arith, c.in-None.ensures.none)) (omega (arith, c.in-None.ensures.none))

pub returns-in-Some-clause-most : goal.returns-in-Some-clause-most
returns-in-Some-clause-most c = grind (arith, common_steps, length-decimal-le, pow-suc 10 c.in-Some.exponent)
