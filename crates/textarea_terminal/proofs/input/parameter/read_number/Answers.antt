use Rattle.std.proofs.Common.{sym, ◌∙◌}
use Rattle.textarea_terminal.proofs.InputPrefixes.{number_from-loop, number_from-end}
use Rattle.textarea_terminal.proofs.input.parameter.read_number.Goals as goal

pub loop-digit-preserved : goal.loop-digit-preserved
loop-digit-preserved c =
    number_from-loop c.loop-digit.number c.with_digit-number.result c.loop-digit.rest.now c.args.bytes.now (c.in-Some.digit, c.in-Some.after.now)
    c.loop-digit.invariant c.in-Some.ensures.digit c.with_digit-number.ensures

pub returns : goal.returns
returns c = sym (number_from-end c.loop-digit.number c.loop-digit.rest.now c.in_default.ensures.digit) ∙ c.loop-digit.invariant
