-- The parts of a text area that are drawn, and the frame made of them.
use Rattle.std.specs.Prelude.{ℕ, not, List, Option}
use Rattle.textarea_document.specs.Edits.{has_symbols}
use Rattle.textarea_document.specs.Selection.{selection}
use Rattle.textarea_document.specs.DocumentState.{DocumentState}
use Rattle.tui_textarea.specs.DrawingState.{DrawingState}
use Rattle.textarea_view.specs.Frame.{FrameState}
use Rattle.textarea_screen_map.specs.BorrowedLines.{BorrowedRows}
use Rattle.textarea_view.specs.Scene.{SceneState}
use Rattle.textarea_view.specs.SurroundState.{SurroundState}

-- the parts of a text area that are drawn: the document, the search pattern, if there is one, the
-- surround, and the state of drawing
pub record WidgetState : Type 0 where
  pub document : DocumentState
  pub pattern : Option (List ℕ)
  pub surround : SurroundState
  pub drawing : DrawingState

abbrev pub widget_state : DocumentState → Option (List ℕ) → SurroundState → DrawingState → WidgetState
widget_state document pattern surround drawing = record { document = document; pattern = pattern; surround = surround; drawing = drawing }

abbrev pub scene_of : WidgetState → BorrowedRows → SceneState
scene_of widget rows = record {
  rows = rows;
  cursor = widget.document.cursor;
  selection = selection widget.document;
  pattern = widget.pattern;
  look = widget.drawing.look;
  highlights = widget.drawing.highlights;
  line_numbers = widget.document.layout.settings.line_numbers;
}

abbrev pub frame_of : WidgetState → BorrowedRows → FrameState
frame_of widget rows = record {
  scene = scene_of widget rows;
  surround = widget.surround;
  mode = widget.document.layout.settings.mode;
  is_empty = not (has_symbols widget.document.text);
}
