-- The position that a cell of the screen shows, and the visible position nearest to the cursor.
use Rattle.std.specs.Prelude.{◌≡◌, ◌⊎◌, ℕ, ◌-◌, min, Bool, true, false, Option}
use Rattle.textarea_document.specs.DocumentRows.{text_and_layout}
use Rattle.textarea_document.specs.DocumentState.{DocumentState}
use Rattle.tui_textarea.specs.DrawnFrame.{WidgetState, frame_of}
use Rattle.tui_textarea.specs.DrawingState.{DrawingState}
use Rattle.textarea_view.specs.Hit.{IsHitOf, IsNear, greatest_at}
use Rattle.textarea_screen_map.specs.BorrowedLines.{BorrowedRows}
use Rattle.textarea_lines.specs.View.{IsViewOf}
use Rattle.textarea_blocks.specs.Sums.{row_total}
use Rattle.textarea_screen_map.specs.VisualPositions.{IsVisualPosition, is_same_visual}
use Rattle.textarea_screen_map.specs.declared.layout.VisualPosition.{VisualPosition}
use Rattle.textarea_screen.specs.Rect.{contains}
use Rattle.textarea_screen.specs.declared.screen.rect.Rect.{Rect}
use Rattle.textarea_text.specs.Place.{Place}
use Rattle.textarea_view.specs.Viewport.{ViewportState, clamped}

-- ---- the hit test

-- the inner area of the last drawing: its stored corner and height, and the width of the layout; no
-- area reaches past column 65535 or row 65535
pub record IsLastArea (document : DocumentState) (drawing : DrawingState) (inner : Rect) : Type 0 where
  pub x : inner.x ≡ drawing.corner.0
  pub y : inner.y ≡ drawing.corner.1
  pub width : inner.width ≡ min document.layout.settings.inner_width (65535 - inner.x)
  pub height : inner.height ≡ min drawing.height (65535 - inner.y)

-- the position that a cell shows, with the present text, in the inner area of the last drawing
pub record IsHitTest (widget : WidgetState) (x y : ℕ) (found : Option Place) : Type 0 where
  pub inner : Rect
  pub inner_is : IsLastArea widget.document widget.drawing inner
  pub rows : BorrowedRows
  pub rows_are : IsViewOf (text_and_layout widget.document) rows
  pub found_is : IsHitOf (frame_of widget rows) widget.drawing.viewport inner x y found

-- the cell isn't in the area: it is outside of it, or the area is empty
abbrev pub IsWithoutCell : Rect → ℕ → ℕ → Type 0
IsWithoutCell area x y = (area.width ≡ 0) ⊎ (area.height ≡ 0) ⊎ (contains area x y ≡ false)

-- ---- the nearest visible position

-- the cursor itself if nothing changes, otherwise the position at the visual position
abbrev pub IsReached : Bool → BorrowedRows → VisualPosition → Place → Place → Type 0
IsReached true rows wanted cursor place = place ≡ cursor
IsReached false rows wanted cursor place = IsNear rows wanted place

-- the cursor moves from its visual position to the nearest visible visual row, and in that row to
-- the nearest visible display column
pub record IsNearestVisible (document : DocumentState) (viewport : ViewportState) (place : Place) : Type 0 where
  pub rows : BorrowedRows
  pub rows_are : IsViewOf (text_and_layout document) rows
  pub visual : VisualPosition
  pub visual_is : IsVisualPosition rows.wrapping.tab_len rows.lines rows.rows document.cursor visual
  pub row : ℕ
  pub row_is : row ≡ clamped viewport.row viewport.height (row_total rows.rows - 1) visual.row
  pub column : ℕ
  pub column_is : column ≡ clamped viewport.column viewport.width (greatest_at rows row) visual.column
  pub place_is : IsReached (is_same_visual (record { row = row; column = column }) visual) rows (record { row = row; column = column }) document.cursor place
