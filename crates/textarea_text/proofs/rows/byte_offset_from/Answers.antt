use Rattle.textarea_text.proofs.Columns.{offset_at_end}
use Rattle.textarea_text.proofs.rows.byte_offset_from.Goals as goal

pub returns-then-line-column : goal.returns-then-line-column
returns-then-line-column c = offset_at_end c.args.line.now c.args.column c.utf8.line c.requires.column c.if-line-column.true
