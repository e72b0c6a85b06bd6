-- The parts of a text area, and the cells of the buffer, after a drawing.
use Rattle.std.specs.Prelude.{◌≡◌, ℕ, List}
use Rattle.textarea_document.specs.DocumentRows.{text_and_layout, with_inner_width}
use Rattle.textarea_view.specs.Cells.{AreLinesOf, frame_change}
use Rattle.tui_textarea.specs.DrawnFrame.{WidgetState, frame_of}
use Rattle.textarea_view.specs.Placements.{IsPlacement, Placement}
use Rattle.tui_textarea.specs.DrawingState.{DrawingState}
use Rattle.textarea_screen_map.specs.BorrowedLines.{BorrowedRows}
use Rattle.textarea_lines.specs.View.{IsViewOf}
use Rattle.textarea_screen.specs.Buffer.{Changes, area_of}
use Rattle.textarea_screen.specs.Text.{LineView}
use Rattle.textarea_screen.specs.declared.screen.buffer.Buffer.{Buffer}
use Rattle.textarea_screen.specs.declared.screen.rect.Rect.{Rect}
use Rattle.textarea_view.specs.Inner.{IsInner}

-- the same parts, with a layout for an inner area of this number of columns
abbrev pub at_inner_width : WidgetState → ℕ → WidgetState
at_inner_width widget width = record widget { document = with_inner_width widget.document width }

-- the viewport, the caret, and the inner area that was drawn into, are stored
abbrev pub drawn_into : DrawingState → Rect → Placement → DrawingState
drawn_into drawing inner placement = record drawing {
  viewport = placement.viewport;
  corner = (inner.x, inner.y);
  height = inner.height;
  caret = placement.caret;
}

-- The parts after a drawing into the area: the layout has the width inside the block, and lines are
-- wrapped again only if that changes how they wrap; the viewport follows the cursor; and the inner
-- area and the caret are stored. All else is as before.
pub record IsWidgetRendered (old : WidgetState) (area : Rect) (new : WidgetState) : Type 0 where
  pub inner : Rect
  pub inner_is : IsInner old.surround.block area inner
  pub rows : BorrowedRows
  pub rows_are : IsViewOf (text_and_layout (with_inner_width old.document inner.width)) rows
  pub placement : Placement
  pub placing_is : IsPlacement (frame_of (at_inner_width old inner.width) rows) old.drawing.viewport inner placement
  pub new_is : new ≡ record (at_inner_width old inner.width) { drawing = drawn_into old.drawing inner placement }

-- Each cell of a buffer after these parts are drawn into it comes from their frame and the old
-- cell: the rows are those of the text's layout, from the first visible one on.
pub record IsDrawn (widget : WidgetState) (area : Rect) (old new : Buffer) : Type 0 where
  pub inner : Rect
  pub inner_is : IsInner widget.surround.block area inner
  pub rows : BorrowedRows
  pub rows_are : IsViewOf (text_and_layout widget.document) rows
  pub lines : List LineView
  pub lines_are : AreLinesOf (frame_of widget rows) widget.drawing.viewport inner (area_of old) lines
  pub cells : Changes old new (frame_change (frame_of widget rows) widget.drawing.viewport area inner lines)
