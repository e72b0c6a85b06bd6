-- A drawing, before anything of it is stored.
use Rattle.std.specs.Prelude.{ℕ}
use Rattle.textarea_document.specs.DocumentRows.{text_and_layout, with_inner_width}
use Rattle.tui_textarea.specs.DrawnFrame.{WidgetState, frame_of}
use Rattle.textarea_view.specs.FrameDrawn.{IsFrameDrawn}
use Rattle.textarea_view.specs.Placements.{Placement}
use Rattle.textarea_screen_map.specs.BorrowedLines.{BorrowedRows}
use Rattle.textarea_lines.specs.View.{IsViewOf}
use Rattle.textarea_screen.specs.declared.screen.buffer.Buffer.{Buffer}
use Rattle.textarea_screen.specs.declared.screen.rect.Rect.{Rect}

-- this is drawn by the frame of these parts, with the text's rows for an inner area of this width
pub record IsDrawnAt (widget : WidgetState) (width : ℕ) (area inner : Rect) (old new : Buffer) (placement : Placement) : Type 0 where
  pub rows : BorrowedRows
  pub rows_are : IsViewOf (text_and_layout (with_inner_width widget.document width)) rows
  pub drawn : IsFrameDrawn (frame_of widget rows) widget.drawing.viewport area inner old new placement
