use Rattle.std.proofs.Common.{arith}
use Rattle.textarea_text.proofs.Prelude.{common_steps, length-map, sub-zero, IsUtf8-string_bytes}
use Rattle.textarea_text.proofs.Columns.{chars-take, chars-drop}
use Rattle.textarea_text.proofs.StringRows.{boundary_at, offset_of_line, line_at, row_within}
use Rattle.textarea_text.proofs.rows.new_rows.Goals as goal

pub range-head-requires-clause-end_boundary : goal.range-head-requires-clause-end_boundary
range-head-requires-clause-end_boundary c =
    boundary_at c.index-lines-start.result c.as_str-before.result.now c.args.start.1 c.byte_offset-offset.result c.as_str-before.ensures.value c.byte_offset-offset.ensures

pub range_from-tail-requires : goal.range_from-tail-requires
range_from-tail-requires c =
    λ _. boundary_at c.index-lines-end.result c.as_str-after.result.now c.args.end.1 c.end_offset.result c.as_str-after.ensures.value c.end_offset.ensures

pub returns-clause-rows : goal.returns-clause-rows
returns-clause-rows c =
    let lines = c.args.lines.now in
    let start = row_within lines c.args.start c.requires.start in
    let end = row_within lines c.args.end c.requires.end in
    grind (arith, common_steps, offset_of_line, chars-take, IsUtf8-string_bytes, sub-zero, line_at, chars-drop, length-map)
