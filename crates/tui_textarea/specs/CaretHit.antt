-- The position at the caret's cell after a drawing.
use Rattle.std.specs.Prelude.{◌≡◌, ℕ, Option, Some}
use Rattle.textarea_document.specs.DocumentRows.{text_and_layout}
use Rattle.tui_textarea.specs.DrawnFrame.{WidgetState}
use Rattle.tui_textarea.specs.Hit.{IsHitTest}
use Rattle.tui_textarea.specs.Rendered.{IsWidgetRendered}
use Rattle.textarea_screen_map.specs.BorrowedLines.{BorrowedRows}
use Rattle.textarea_lines.specs.View.{IsViewOf}
use Rattle.textarea_screen_map.specs.VisualRows.{row_at}
use Rattle.textarea_screen_map.specs.VisualPositions.{HasNoZeroWidth, IsVisualPosition}
use Rattle.textarea_screen_map.specs.declared.layout.VisualPosition.{VisualPosition}
use Rattle.textarea_screen.specs.declared.screen.rect.Rect.{Rect}
use Rattle.textarea_text.specs.Place.{Place}

-- no character of the cursor's visual row has display width 0
abbrev pub HasWideCursorRow : WidgetState → Type 0
HasWideCursorRow widget = (rows : BorrowedRows) (visual : VisualPosition) → IsViewOf (text_and_layout widget.document) rows
    → IsVisualPosition rows.wrapping.tab_len rows.lines rows.rows widget.document.cursor visual
    → HasNoZeroWidth (row_at rows.lines rows.rows visual.row).text

-- the caret's cell shows the cursor, if no character of its visual row has display width 0
abbrev pub IsCaretHit : WidgetState → Type 0
IsCaretHit widget = (x y : ℕ) (found : Option Place) → widget.drawing.caret ≡ Some (x, y)
    → HasWideCursorRow widget → IsHitTest widget x y found → found ≡ Some widget.document.cursor

-- if a drawing left these parts with the caret in this cell, and no character of the cursor's
-- visual row has display width 0, the cell shows the cursor
abbrev pub IsCursorAtCaret : WidgetState → ℕ → ℕ → Option Place → Type 0
IsCursorAtCaret widget x y found = (old : WidgetState) (area : Rect) → IsWidgetRendered old area widget
    → widget.drawing.caret ≡ Some (x, y) → HasWideCursorRow widget → found ≡ Some widget.document.cursor
