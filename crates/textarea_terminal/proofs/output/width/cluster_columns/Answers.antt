use Rattle.std.proofs.Common.{sym, ap, ◌∙◌}
use Rattle.textarea_terminal.specs.PaintCells.{cluster_columns}
use Rattle.textarea_terminal.proofs.ScreenPlain.{cluster_columns-plain}
use Rattle.textarea_terminal.proofs.output.width.cluster_columns.Goals as goal

pub returns-then-is_plain : goal.returns-then-is_plain
returns-then-is_plain c =
    let plain = c.is_plain.ensures c.if-is_plain.true in
    record { value = sym (ap cluster_columns (sym c.as_bytes.ensures.value) ∙ cluster_columns-plain c.as_bytes.result.now plain.0 plain.1) }
