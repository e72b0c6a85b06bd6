use Rattle.std.proofs.Common.{◌∙◌, ap}
use Rattle.std.specs.Str.{chars}
use Rattle.textarea_text.proofs.Columns.{offset_in}
use Rattle.textarea_text.proofs.StartLemmas.{offset_by_count, offset_past}
use Rattle.textarea_text.proofs.rows.offset_within.Goals as goal

pub returns-then-line-column : goal.returns-then-line-column
returns-then-line-column c = offset_past c.args.line.now c.args.column c.utf8.line c.if-line-column.true

pub returns : goal.returns
returns c =
    offset_by_count c.as_bytes.result.now c.start_after.result c.args.column c.as_bytes.ensures.utf8 c.start_after.ensures.within c.start_after.ensures.start c.start_after.ensures.count
    ∙ ap (λ bs. offset_in (chars bs) c.args.column) c.as_bytes.ensures.value
