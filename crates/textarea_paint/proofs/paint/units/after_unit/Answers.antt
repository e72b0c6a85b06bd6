use Rattle.std.proofs.Common.{sym, ◌∙◌}
use Rattle.textarea_paint.proofs.UnitLemmas.{unit-flag, unit-joined}
use Rattle.textarea_paint.proofs.paint.units.after_unit.Goals as goal

pub returns-then-is_flag_half : goal.returns-then-is_flag_half
returns-then-is_flag_half c =
    unit-flag c.args.text.now c.as_str-rest.result.now c.in_ok-after.after.now c.in_ok-first.first c.utf8.text
    (cc (c.in_ok-first.ensures.steps.0, c.chars-characters.ensures.rest, c.as_str-rest.ensures)) (sym c.is_flag_half.ensures ∙ c.if-is_flag_half.true) c.in_ok-after.ensures

pub returns : goal.returns
returns c =
    unit-joined c.args.text.now c.as_str-rest.result.now c.after_joined.result.1.now c.in_ok-first.first c.after_joined.result.0 c.utf8.text
    (cc (c.in_ok-first.ensures.steps.0, c.chars-characters.ensures.rest, c.as_str-rest.ensures)) c.in_ok-columns.ensures.simple c.after_joined.ensures
