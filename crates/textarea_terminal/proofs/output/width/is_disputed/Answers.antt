use Rattle.std.proofs.Common.{sym, ap, ◌∙◌}
use Rattle.textarea_terminal.specs.Disputed.{is_disputed}
use Rattle.textarea_terminal.proofs.DisputedBlank.{is_disputed-plain}
use Rattle.textarea_terminal.proofs.output.width.is_disputed.Goals as goal

pub returns-then-is_plain : goal.returns-then-is_plain
returns-then-is_plain c =
    let plain = c.is_plain.ensures c.if-is_plain.true in
    record { value = sym (ap is_disputed (sym c.as_bytes.ensures.value) ∙ is_disputed-plain c.as_bytes.result.now plain.0 plain.1) }
