-- The lines of a placeholder, drawn one below the other.
use Rattle.std.proofs.Common.{◌≡◌, ℕ, ◌+◌, ◌<◌, ◌==◌, ◌++◌, true, false, List, [], ◌∷◌, length, map, take, get_or, zero, suc, cond, refl, sym, ap, ◌∙◌, arith}
use Rattle.std.specs.List.{flat_map}
use Rattle.std.proofs.lemmas.Bool.{cond-false}
use Rattle.std.proofs.lemmas.Bool.Decides.{nat_tests}
use Rattle.std.proofs.lemmas.List.{length-take, take_more}
use Rattle.textarea_view.specs.Prelude.{CursorCellRender, Draw, Hidden, row_clusters, span_clusters, cells_of_row, placed_row, row_cell, row_change, RowArea, Changes, CellView, is_in_row, patched}
use Rattle.textarea_view.specs.Prelude.{LineView, SpanView, Buffer, Style, lines_change, after_cursor, blank, cell_of_line, borrowed_line, borrowed_span, placeholder_lines}
use Rattle.textarea_paint.specs.Row.{first_visible_column}
use Rattle.textarea_screen.proofs.ChangeLemmas.{Changes-as, Changes-then}
use Rattle.textarea_view.proofs.Drawing.{lines_change-push}

-- ---- the lines

pub length-placeholder_lines : (cursor_cell : CursorCellRender) (lines : List LineView) → length (placeholder_lines cursor_cell lines) ≡ length lines
length-placeholder_lines cursor_cell [] = refl
length-placeholder_lines cursor_cell (line ∷ lines) = refl

cell_of_line-later : (cursor_cell : CursorCellRender) (line : ℕ) → 0 < line → cell_of_line cursor_cell line ≡ Hidden
cell_of_line-later cursor_cell line later = cond-false (line == 0) _ _ (grind (arith, nat_tests))

-- the line of each number, with the cursor before the first
pub line_at : (cursor_cell : CursorCellRender) (lines : List LineView) (i : ℕ) (d : LineView) → i < length lines → after_cursor (cell_of_line cursor_cell i) (get_or lines i d) ≡ get_or (placeholder_lines cursor_cell lines) i d
line_at cursor_cell [] i d within = absurd (omega (arith, within))
line_at cursor_cell (line ∷ lines) zero d within = refl
line_at cursor_cell (line ∷ lines) (suc i) d within = ap (λ cell. after_cursor cell (get_or lines i d)) (cell_of_line-later cursor_cell (suc i) (omega arith))

pub cell_of_line-hidden : (line : ℕ) → cell_of_line Hidden line ≡ Hidden
cell_of_line-hidden line = elim (line == 0) as (λ b. cond b Hidden Hidden ≡ Hidden) [ true ↦ refl | false ↦ refl ]

-- ---- the cells

-- one line more is drawn
pub lines_more : (rows : RowArea) (lines : List LineView) (old now new : Buffer) (count : ℕ) (line d : LineView) → count < length lines → line ≡ get_or lines count d →
    Changes old now (lines_change rows rows.area.y (take count lines)) → Changes now new (row_cell rows (rows.area.y + count) line) →
    Changes old new (lines_change rows rows.area.y (take (count + 1) lines))
lines_more rows lines old now new count line d within is drawn change =
    let all : take count lines ++ line ∷ [] ≡ take (count + 1) lines = ap (λ (l : LineView). take count lines ++ l ∷ []) is ∙ sym (take_more lines count d within) in
    let many : length (take count lines) ≡ count = omega (arith, length-take count lines, within) in
    Changes-then (lines_change rows rows.area.y (take (count + 1) lines)) drawn change
    (λ x y cell.
    ap (λ n. row_cell rows (rows.area.y + n) line x y (lines_change rows rows.area.y (take count lines) x y cell)) (sym many)
    ∙ lines_change-push rows rows.area.y (take count lines) line x y cell
    ∙ ap (λ (ls : List LineView). lines_change rows rows.area.y ls x y cell) all)

-- ---- borrowed texts

clusters-borrowed : (style : Style) (spans : List SpanView) → flat_map (span_clusters style) (map borrowed_span spans) ≡ flat_map (span_clusters style) spans
clusters-borrowed style [] = refl
clusters-borrowed style (span ∷ spans) = ap (λ cs. span_clusters style span ++ cs) (clusters-borrowed style spans)

-- a line after the blank has the same clusters, borrowed or owned
clusters_after : (style own : Style) (line : LineView) → row_clusters style (after_cursor (Draw own) (borrowed_line line)) ≡ row_clusters style (after_cursor (Draw own) line)
clusters_after style own line = ap (λ cs. span_clusters (patched style line.style) (blank own) ++ cs) (clusters-borrowed (patched style line.style) line.spans)

-- so it puts the same into each cell
row_cell-like : (rows : RowArea) (y : ℕ) (a b : LineView) → row_clusters rows.style a ≡ row_clusters rows.style b → (column row : ℕ) (cell : CellView) → row_cell rows y a column row cell ≡ row_cell rows y b column row cell
unfolding row_cell
row_cell-like rows y a b same column row cell =
    ap (λ cs. cond (is_in_row rows.area y column row)
    (row_change (cells_of_row rows.area y) (first_visible_column rows.alignment rows.left) (placed_row rows.alignment rows.area.width cs) column row cell) cell) same

pub drawn_after : (rows : RowArea) (y : ℕ) (own : Style) (line displayed : LineView) (old new : Buffer) → displayed ≡ after_cursor (Draw own) (borrowed_line line) → Changes old new (row_cell rows y displayed) →
    Changes old new (row_cell rows y (after_cursor (Draw own) line))
drawn_after rows y own line displayed old new is change =
    Changes-as (row_cell rows y (after_cursor (Draw own) line)) change
    (row_cell-like rows y displayed (after_cursor (Draw own) line) (ap (row_clusters rows.style) is ∙ clusters_after rows.style own line))
