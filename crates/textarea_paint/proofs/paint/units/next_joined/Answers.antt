use Rattle.std.proofs.Common.{sym, ◌∙◌}
use Rattle.textarea_paint.proofs.UnitLemmas.{joined-if_picture, joined-mark, joined-modifier}
use Rattle.textarea_paint.proofs.paint.units.next_joined.Goals as goal

pub returns-then-is_mark-clause-joined : goal.returns-then-is_mark-clause-joined
returns-then-is_mark-clause-joined c =
    joined-mark c.args.first c.args.text.now c.as_str-after.result.now c.in_ok-c.c
    (cc (c.in_ok-c.ensures.steps.0, c.chars-characters.ensures.rest, c.as_str-after.ensures)) (sym c.is_mark.ensures ∙ c.if-is_mark.true)

pub returns-then-is_modifier-clause-joined : goal.returns-then-is_modifier-clause-joined
returns-then-is_modifier-clause-joined c =
    joined-modifier c.args.first c.args.text.now c.as_str-after.result.now c.in_ok-c.c
    (cc (c.in_ok-c.ensures.steps.0, c.chars-characters.ensures.rest, c.as_str-after.ensures)) (sym c.is_modifier.ensures ∙ c.if-is_modifier.true)

pub returns-then-is_picture-clause-joined : goal.returns-then-is_picture-clause-joined
returns-then-is_picture-clause-joined c =
    joined-if_picture c.args.first c.args.text.now c.as_str-after.result.now c.in_ok-c.c c.after_picture.result (λ p. p.0) (λ p. p.1.now)
    (cc (c.in_ok-c.ensures.steps.0, c.chars-characters.ensures.rest, c.as_str-after.ensures)) c.if-c-eq-JOINER.true
    (sym c.is_picture.ensures ∙ c.if-is_picture.true) c.after_picture.ensures
