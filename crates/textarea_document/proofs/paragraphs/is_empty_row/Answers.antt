use Rattle.std.proofs.Common.{◌∙◌, ap, sym}
use Rattle.textarea_text.specs.Paragraphs.{is_empty_line}
use Rattle.textarea_text.proofs.StringRows.{line_at}
use Rattle.textarea_document.proofs.RowLemmas.{is_empty_line-string}
use Rattle.textarea_document.proofs.paragraphs.is_empty_row.Goals as goal

pub returns : goal.returns
returns c =
    c.is_empty.ensures ∙ is_empty_line-string c.index-lines-row.result
    ∙ ap is_empty_line (sym (line_at c.args.lines.now c.args.row c.index-lines-row.result c.requires c.index-lines-row.is))
