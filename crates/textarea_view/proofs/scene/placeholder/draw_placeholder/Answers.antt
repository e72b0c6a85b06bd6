use Rattle.std.proofs.Common.{◌≡◌, ℕ, ◌<◌, ◌+◌, min, true, false, List, length, map, take, get_or, sym, ap, subst, ◌∙◌, arith}
use Rattle.std.proofs.lemmas.List.{get_or-map, length-map, take_min}
use Rattle.std.proofs.lemmas.List.Elements.{All-get_or}
use Rattle.textarea_view.specs.Prelude.{AreInline, row_clusters, row_cell, RowArea, CursorCellRender, area_of, Changes, KeepsOutside, is_in_row, LineView, line_view, lines_change, rows_above_end}
use Rattle.textarea_view.specs.Prelude.{after_cursor, cell_of_line, in_placeholder_style, placeholder_lines}
use Rattle.textarea_view.proofs.Drawing.{lines_failed}
use Rattle.textarea_view.proofs.Placeholder.{cell_of_line-hidden, length-placeholder_lines, line_at, lines_more}
use Rattle.textarea_view.proofs.Layers.{also_on_err}
use Rattle.textarea_view.proofs.scene.placeholder.draw_placeholder.Goals as goal

pub loop-i-preserved : goal.loop-i-preserved
loop-i-preserved c =
    let i = c.loop-i.i in
    let items = c.args.placeholder.now.lines.items in
    let all : List LineView = map line_view items in
    let cursor = c.args.cursor_cell in
    let lines = placeholder_lines cursor all in
    let rows = in_placeholder_style c.args.rows c.args.placeholder.now.style in
    let own = line_view c.index-line.result.now in
    let now = c.loop-i.buffer in
    let new = c.draw_line.new.buffer in
    let within : i < length items = omega arith in
    let counted : i < length all = omega (arith, within, length-map items line_view) in
    let line = after_cursor (cell_of_line cursor i) own in
    let is : c.index-line.result.now ≡ get_or items i c.index-line.result.now = c.index-line.ensures in
    let here : own ≡ get_or all i own = ap line_view is ∙ sym (get_or-map line_view items i c.index-line.result.now own within) in
    let drawn : Changes now new (row_cell c.in_style-styled.result (c.y.result + i) (after_cursor c.cell_of_line-cell.result own)) = c.in_ok-draw_line.ensures.ok in
    lines_more rows lines c.args.buffer.now now new i line own (omega (arith, counted, length-placeholder_lines cursor all))
    (ap (after_cursor (cell_of_line cursor i)) here ∙ line_at cursor all i own counted) c.loop-i.invariant
    (subst (λ (n : ℕ). Changes now new (row_cell rows (n + i) line)) c.y.ensures
    (subst (λ (r : RowArea). Changes now new (row_cell r (c.y.result + i) line)) c.in_style-styled.ensures
    (subst (λ (cell : CursorCellRender). Changes now new (row_cell c.in_style-styled.result (c.y.result + i) (after_cursor cell own))) c.cell_of_line-cell.ensures drawn)))

pub returns-clause-ok : goal.returns-clause-ok
returns-clause-ok c =
    let items = c.args.placeholder.now.lines.items in
    let all : List LineView = map line_view items in
    let lines = placeholder_lines c.args.cursor_cell all in
    let rows = in_placeholder_style c.args.rows c.args.placeholder.now.style in
    let room = rows_above_end c.args.rows.area (area_of c.args.buffer.now) in
    let many : length lines ≡ length items = length-placeholder_lines c.args.cursor_cell all ∙ length-map items line_view in
    let count : c.loop-i.i ≡ min room (length lines) = omega (arith, many, c.rows_above_end-room.ensures, ap (rows_above_end c.args.rows.area) c.area.ensures) in
    subst (λ (ls : List LineView). Changes c.args.buffer.now c.loop-i.buffer (lines_change rows c.args.rows.area.y ls)) (ap (λ n. take n lines) count ∙ take_min room lines) c.loop-i.invariant

pub returns-in_err-draw_line-clause-err : goal.returns-in_err-draw_line-clause-err
returns-in_err-draw_line-clause-err c =
    let rows = in_placeholder_style c.args.rows c.args.placeholder.now.style in
    let lines = take c.loop-i.i (placeholder_lines c.args.cursor_cell (map line_view c.args.placeholder.now.lines.items)) in
    also_on_err c.from_residual.result
    (lines_failed rows lines c.args.buffer.now c.loop-i.buffer c.draw_line.new.buffer (c.y.result + c.loop-i.i) c.loop-i.invariant
    (subst (λ (r : RowArea). KeepsOutside (is_in_row r.area (c.y.result + c.loop-i.i)) c.loop-i.buffer c.draw_line.new.buffer) c.in_style-styled.ensures c.in_err-draw_line.ensures.err))

-- without the blank the line needs no allocation, if it is inline
pub returns-in_err-draw_line-clause-inline : goal.returns-in_err-draw_line-clause-inline
returns-in_err-draw_line-clause-inline c = λ hidden inline.
    let i = c.loop-i.i in
    let items = c.args.placeholder.now.lines.items in
    let all : List LineView = map line_view items in
    let rows = in_placeholder_style c.args.rows c.args.placeholder.now.style in
    let item = c.index-line.result.now in
    let within : i < length items = omega arith in
    let counted : i < length all = omega (arith, within, length-map items line_view) in
    let is : item ≡ get_or items i item = c.index-line.ensures in
    let here : get_or all i (line_view item) ≡ line_view item = get_or-map line_view items i item (line_view item) within ∙ ap line_view (sym is) in
    let short : AreInline (row_clusters rows.style (line_view item)) = subst (λ (l : LineView). AreInline (row_clusters rows.style l)) here
    (All-get_or (λ (l : LineView). AreInline (row_clusters rows.style l)) all i (line_view item) counted inline) in
    let never : false ≡ true = c.in_err-draw_line.ensures.inline (c.cell_of_line-cell.ensures ∙ ap (λ cell. cell_of_line cell i) hidden ∙ cell_of_line-hidden i)
    (subst (λ (r : RowArea). AreInline (row_clusters r.style (line_view item))) (sym c.in_style-styled.ensures) short) in
    cc
