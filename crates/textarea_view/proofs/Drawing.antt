-- Rows drawn one below the other.
use Rattle.std.proofs.Common.{◌≡◌, ℕ, ◌+◌, ◌==◌, false, List, [], ◌∷◌, ◌++◌, length, refl, sym, ap, ◌∙◌, subst, arith}
use Rattle.std.proofs.lemmas.List.{length-append}
use Rattle.textarea_view.specs.Prelude.{ShowsRow, row_cell, RowArea, Changes, KeepsOutside, CellView, contains, is_in_row, LineView, Buffer, Rect, AreDisplayed, DrawnTo, IsDrawnAs, lines_change}
use Rattle.textarea_view.specs.Prelude.{VisualRow, row_at, highlights_of, row_highlights, SceneState}
use Rattle.textarea_screen.proofs.ChangeLemmas.{Changes-as, Changes-none, Changes-then, KeepsOutside-from_changes, KeepsOutside-then, KeepsOutside-wider}
use Rattle.std.proofs.lemmas.Bool.{and_right}
use Rattle.textarea_paint.proofs.RowAreaLemmas.{row_cell-outside}

-- the highlights of a row's text are those of the row
pub highlights_are : (scene : SceneState) (number : ℕ) (row : VisualRow) → row ≡ row_at scene.rows.lines scene.rows.rows number → highlights_of scene row ≡ row_highlights scene number
unfolding row_highlights
highlights_are scene number row e = ap (highlights_of scene) e

AreDisplayed-push : (scene : SceneState) (row : ℕ) (lines : List LineView) (line : LineView) → AreDisplayed scene row lines → ShowsRow (row_highlights scene (row + length lines)) line → AreDisplayed scene row (lines ++ line ∷ [])
AreDisplayed-push scene row [] line h shows = (subst (λ n. ShowsRow (row_highlights scene n) line) (omega arith) shows, tt)
AreDisplayed-push scene row (first ∷ lines) line h shows =
    (h.0, AreDisplayed-push scene (row + 1) lines line h.1 (subst (λ n. ShowsRow (row_highlights scene n) line) (omega arith) shows))

pub lines_change-push : (rows : RowArea) (y : ℕ) (lines : List LineView) (line : LineView) (column row : ℕ) (cell : CellView) →
    row_cell rows (y + length lines) line column row (lines_change rows y lines column row cell) ≡ lines_change rows y (lines ++ line ∷ []) column row cell
lines_change-push rows y [] line column row cell = ap (λ n. row_cell rows n line column row cell) (omega arith)
lines_change-push rows y (first ∷ lines) line column row cell =
    ap (λ n. row_cell rows n line column row (lines_change rows (y + 1) lines column row (row_cell rows y first column row cell))) (omega arith)
    ∙ lines_change-push rows (y + 1) lines line column row (row_cell rows y first column row cell)

pub drawn_none : (scene : SceneState) (top : ℕ) (rows : RowArea) (buffer : Buffer) → DrawnTo scene top rows buffer buffer 0
drawn_none scene top rows buffer = record { lines = []; many = refl; displayed = tt; change = Changes-none buffer (lines_change rows rows.area.y []) (λ x y cell. refl) }

pub drawn_more : (scene : SceneState) (top : ℕ) (rows : RowArea) (old now new : Buffer) (count : ℕ) (line : LineView) → DrawnTo scene top rows old now count →
    ShowsRow (row_highlights scene (top + count)) line → Changes now new (row_cell rows (rows.area.y + count) line) → DrawnTo scene top rows old new (count + 1)
drawn_more scene top rows old now new count line h shows change = record {
  lines = h.lines ++ line ∷ [];
  many = omega (arith, length-append h.lines (line ∷ []), h.many);
  displayed = AreDisplayed-push scene top h.lines line h.displayed (subst (λ n. ShowsRow (row_highlights scene (top + n)) line) (sym h.many) shows);
  change = Changes-then (lines_change rows rows.area.y (h.lines ++ line ∷ [])) h.change
      (subst (λ n. Changes now new (row_cell rows (rows.area.y + n) line)) (sym h.many) change)
      (λ x y cell. lines_change-push rows rows.area.y h.lines line x y cell);
}

-- the same by a line that has the cells of the row's line
pub drawn_more_as : (scene : SceneState) (top : ℕ) (rows : RowArea) (old now new : Buffer) (count left : ℕ) (line : LineView) → DrawnTo scene top rows old now count →
    IsDrawnAs (row_highlights scene (top + count)) rows left line → Changes now new (row_cell (record rows { left = left }) (rows.area.y + count) line) → DrawnTo scene top rows old new (count + 1)
drawn_more_as scene top rows old now new count left line h drawn change =
    drawn_more scene top rows old now new count drawn.whole h drawn.shows
    (Changes-as (row_cell rows (rows.area.y + count) drawn.whole) change (λ x y cell. sym (drawn.same (rows.area.y + count) x y cell)))

-- ---- cells outside of the area

not_in_row : (area : Rect) (y column row : ℕ) → contains area column row ≡ false → is_in_row area y column row ≡ false
not_in_row area y column row outside = and_right (row == y) (contains area column row) outside

outside_stays : (rows : RowArea) (y : ℕ) (lines : List LineView) (column row : ℕ) (cell : CellView) → contains rows.area column row ≡ false → lines_change rows y lines column row cell ≡ cell
outside_stays rows y [] column row cell outside = refl
outside_stays rows y (line ∷ lines) column row cell outside =
    outside_stays rows (y + 1) lines column row (row_cell rows y line column row cell) outside
    ∙ row_cell-outside rows y line column row cell (not_in_row rows.area y column row outside)

pub lines_inside : (rows : RowArea) (lines : List LineView) (old now : Buffer) → Changes old now (lines_change rows rows.area.y lines) → KeepsOutside (contains rows.area) old now
lines_inside rows lines old now change =
    KeepsOutside-from_changes (contains rows.area) change (λ x y cell outside. outside_stays rows rows.area.y lines x y cell outside)

-- this is also so if drawing the next row fails half way
pub lines_failed : (rows : RowArea) (lines : List LineView) (old now new : Buffer) (y : ℕ) → Changes old now (lines_change rows rows.area.y lines) → KeepsOutside (is_in_row rows.area y) now new → KeepsOutside (contains rows.area) old new
lines_failed rows lines old now new y change keeps =
    KeepsOutside-then (lines_inside rows lines old now change) (KeepsOutside-wider (contains rows.area) keeps (λ column row outside. not_in_row rows.area y column row outside))

pub drawn_inside : (scene : SceneState) (top : ℕ) (rows : RowArea) (old now : Buffer) (count : ℕ) → DrawnTo scene top rows old now count → KeepsOutside (contains rows.area) old now
drawn_inside scene top rows old now count h = lines_inside rows h.lines old now h.change

pub failed_inside : (scene : SceneState) (top : ℕ) (rows : RowArea) (old now new : Buffer) (count y : ℕ) → DrawnTo scene top rows old now count → KeepsOutside (is_in_row rows.area y) now new → KeepsOutside (contains rows.area) old new
failed_inside scene top rows old now new count y h keeps = lines_failed rows h.lines old now new y h.change keeps
