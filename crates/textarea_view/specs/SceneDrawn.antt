-- The lines that show visual rows, and their effect on the cells of an area.
use Rattle.std.specs.Prelude.{◌≡◌, ℕ, ◌+◌, ◌-◌, min, List, [], ◌∷◌, All, length}
use Rattle.textarea_highlight.specs.Highlights.{Highlights}
use Rattle.textarea_highlight.specs.Row.{ShowsRow}
use Rattle.textarea_highlight.specs.Seen.{IsText, spans_columns}
use Rattle.textarea_blocks.specs.Sums.{row_total}
use Rattle.textarea_paint.specs.Clusters.{row_clusters}
use Rattle.textarea_paint.specs.Row.{row_cell, line_offset}
use Rattle.textarea_paint.specs.declared.paint.row.RowArea.{RowArea}
use Rattle.textarea_screen.specs.Buffer.{Change, Changes}
use Rattle.textarea_screen.specs.Cell.{CellView}
use Rattle.textarea_screen.specs.Text.{LineView, SpanView}
use Rattle.textarea_screen.specs.declared.screen.buffer.Buffer.{Buffer}
use Rattle.textarea_screen.specs.declared.screen.rect.Rect.{Rect}
use Rattle.textarea_view.specs.SceneRows.{row_highlights}
use Rattle.textarea_view.specs.Scene.{SceneState}

-- the lines show the visual rows from this one on, one each
abbrev pub AreDisplayed : SceneState → ℕ → List LineView → Type 0
AreDisplayed scene row [] = Unit {0}
AreDisplayed scene row (line ∷ lines) = ShowsRow (row_highlights scene row) line × AreDisplayed scene (row + 1) lines

-- the number of rows of an area that are above the end of a buffer's area
abbrev pub rows_above_end : Rect → Rect → ℕ
rows_above_end area buffer = min (area.y + area.height) (buffer.y + buffer.height) - area.y

-- the lines shown from the top on: one for each visual row, while area and buffer have room
pub record FillsArea (scene : SceneState) (top : ℕ) (area buffer : Rect) (lines : List LineView) : Type 0 where
  pub all : length lines ≡ min (rows_above_end area buffer) (row_total scene.rows.rows - top)
  pub displayed : AreDisplayed scene top lines

-- a cell after lines are drawn one below the other, the first in row `y`
abbrev pub lines_change : RowArea → ℕ → List LineView → Change
lines_change rows y [] column row cell = cell
lines_change rows y (line ∷ lines) column row cell = lines_change rows (y + 1) lines column row (row_cell rows y line column row cell)

-- The buffer was `old`, and is `new`: `count` visual rows from the top on are drawn.
pub record DrawnTo (scene : SceneState) (top : ℕ) (rows : RowArea) (old new : Buffer) (count : ℕ) : Type 0 where
  pub lines : List LineView
  pub many : length lines ≡ count
  pub displayed : AreDisplayed scene top lines
  pub change : Changes old new (lines_change rows rows.area.y lines)

-- the number of columns between the left edge of the area and the start of the visual row's line
abbrev pub IsRowStart : SceneState → RowArea → ℕ → ℕ → Type 0
IsRowStart scene rows row start = (line : LineView)
    × ShowsRow (row_highlights scene row) line
    × (start ≡ line_offset rows.alignment rows.area.width (row_clusters rows.style line))

-- ---- rows of which only a part is drawn

-- the spans are texts, and together they take these columns
pub record AreNumbers (spans : List SpanView) (count : ℕ) : Type 0 where
  pub texts : All IsText spans
  pub columns : spans_columns spans ≡ count

-- a line that is drawn from the column `left` on has the cells of the line that shows the row
pub record IsDrawnAs (h : Highlights) (rows : RowArea) (left : ℕ) (line : LineView) : Type 0 where
  pub whole : LineView
  pub shows : ShowsRow h whole
  pub same : (y column row : ℕ) (cell : CellView) → row_cell rows y whole column row cell ≡ row_cell (record rows { left = left }) y line column row cell
