use Rattle.std.proofs.Common.{sym, ap, ◌∙◌}
use Rattle.textarea_terminal.specs.Disputed.{can_widen}
use Rattle.textarea_terminal.proofs.DisputedBlank.{can_widen-plain}
use Rattle.textarea_terminal.proofs.output.part.can_widen.Goals as goal

pub returns-then-is_plain : goal.returns-then-is_plain
returns-then-is_plain c =
    let plain = c.is_plain.ensures c.if-is_plain.true in
    record { value = sym (ap can_widen (sym c.as_bytes.ensures.value) ∙ can_widen-plain c.as_bytes.result.now plain.0 plain.1) }
