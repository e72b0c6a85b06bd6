-- A text area that is as high as its text.
use Rattle.std.specs.Prelude.{◌≡◌, ◌+◌, ◌≤◌, ◌<◌, None, false}
use Rattle.textarea_screen.specs.declared.screen.rect.Rect.{Rect}
use Rattle.textarea_blocks.specs.Sums.{row_total}
use Rattle.textarea_screen_map.specs.BorrowedLines.{BorrowedRows}
use Rattle.textarea_lines.specs.View.{IsViewOf}
use Rattle.textarea_document.specs.DocumentRows.{text_and_layout}
use Rattle.textarea_view.specs.Frame.{shows_placeholder}
use Rattle.tui_textarea.specs.Drawing.{widget_of}
use Rattle.tui_textarea.specs.DrawnFrame.{frame_of}
use Rattle.tui_textarea.specs.State.{State}

-- A text without a block is drawn into this area at the bottom of the screen, from the old state to
-- the new one. If the screen, and the greatest height that is set, have a screen row for each visual
-- row, so has the area. The rows are those of the new state, unless the placeholder is shown.
pub record ShowsAllRows (old new : State) (screen area : Rect) : Type 0 where
  pub bottom : area.y + area.height ≡ screen.y + screen.height
  pub rows : (view : BorrowedRows) → old.surround.block ≡ None → 0 < screen.width → IsViewOf (text_and_layout new.document) view
      → shows_placeholder (frame_of (widget_of new) view) ≡ false → row_total view.rows ≤ screen.height
      → row_total view.rows ≤ old.surround.max_rows → row_total view.rows ≤ area.height
