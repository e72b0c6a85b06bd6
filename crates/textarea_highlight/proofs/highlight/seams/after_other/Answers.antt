use Rattle.std.proofs.Common.{◌+◌, ap, ◌∙◌, arith, sym}
use Rattle.textarea_wrap.specs.Columns.{end_column}
use Rattle.textarea_highlight.proofs.SeamLemmas.{end_of_first, known_after, segment_of_first, size_of_first}
use Rattle.textarea_highlight.proofs.highlight.seams.after_other.Goals as goal

pub returns-clause-known : goal.returns-clause-known
returns-clause-known c =
    let row = c.args.row.now in
    let at = c.args.at in
    let end = at.offset + c.len_utf8.result in
    let known = c.requires.known in
    known_after row c.args.tab_len at end c.column_after.result c.utf8.row known
    (end_of_first row at.offset end c.args.c c.utf8.row known.boundary c.requires.first (omega arith)) (omega arith)
    (c.column_after.ensures.value ∙ ap (end_column c.args.tab_len at.column) (sym (segment_of_first row at.offset end c.args.c c.utf8.row known.boundary c.requires.first (omega arith))))
    (omega (arith, c.column_after.ensures.near, size_of_first row at.offset end c.args.c c.utf8.row known.boundary c.requires.first (omega arith)))
