-- The terminal's side of an editor: its bytes as events, and frames as its bytes.
use Rattle.std.specs.Prelude.{◌≡◌, ◌≢◌, ◌-◌, ◌/◌, ◌++◌, ◌||◌, ℕ, Bool, true, false, List, [], ◌∷◌, Option, None, Some, codes, min}
use Rattle.base64.specs.Engines.{standard}
use Rattle.base64.specs.GeneralPurpose.{encode_of}
use Rattle.std.specs.Duration.{as_nanos}
use Rattle.std.specs.List.{list_any}
use Rattle.std.specs.declared.time.Duration.{Duration}
use Rattle.textarea_editor.specs.Editor.{ShowsHelp, controls_of, draft_of, field_of, screen_columns_of, screen_rows_of}
use Rattle.textarea_editor.specs.Screen.{IsFrameCaret, IsPainted}
use Rattle.textarea_editor.specs.StatusRow.{IsAskedInLast}
use Rattle.textarea_editor.specs.declared.editor.Editor.{Editor}
use Rattle.textarea_editor.specs.declared.editor.drawing.DrawnFrame.{DrawnFrame}
use Rattle.textarea_screen.specs.declared.screen.rect.Rect.{Rect}
use Rattle.textarea_terminal.specs.InputEvent.{EventValue, cursor, size}
use Rattle.textarea_terminal.specs.InputState.{DecoderState, fed, paused}
use Rattle.textarea_terminal.specs.Paint.{PaintedFrame, Paints, Wrote}
use Rattle.textarea_terminal.specs.PaintArea.{cell_count, frame_in}
use Rattle.textarea_terminal.specs.Painter.{painted, painter_area, painter_colors}
use Rattle.textarea_terminal.specs.declared.output.painter.Painter.{Painter}

-- what decodes the terminal's bytes, what paints its cells, and whether the next frame draws all of them
pub record ScreenState : Type 0 where
  pub decoder : DecoderState
  pub painter : Painter
  pub is_stale : Bool

-- ---- what the terminal sends

-- the whole milliseconds of a time, at most those that a pause has
abbrev pub pause_of : Duration → ℕ
pause_of time = min 4294967295 (as_nanos time / 1000000)

-- the events of bytes, or, where there are none, of a pause of so many milliseconds, and the decoder after them
abbrev pub events_read : DecoderState → List ℕ → ℕ → List EventValue × DecoderState
events_read decoder [] milliseconds = paused decoder milliseconds
events_read decoder (b ∷ bytes) milliseconds = fed decoder (b ∷ bytes)

-- an event reports the terminal's size, or the cursor, which is in its last cell
abbrev pub reports_size : EventValue → Bool
reports_size (size columns rows) = true
reports_size (cursor column row) = true
reports_size other = false

-- the state after bytes, or a pause: with a report of a size among the events the next frame draws all cells
abbrev pub screen_read : ScreenState → List ℕ → ℕ → ScreenState
screen_read screen bytes milliseconds = record {
  decoder = (events_read screen.decoder bytes milliseconds).1;
  painter = screen.painter;
  is_stale = screen.is_stale || list_any reports_size (events_read screen.decoder bytes milliseconds).0;
}

-- ---- what the terminal shows

-- the frame that the terminal is known to show before one over this area: none if all cells are to be drawn, or if the area is another
pub record IsKnownBefore (screen : ScreenState) (area : Rect) (before : Option PaintedFrame) : Type 0 where
  pub kept : screen.is_stale ≡ false → area ≡ painter_area screen.painter → before ≡ painted screen.painter
  pub stale : screen.is_stale ≡ true → before ≡ None
  pub resized : area ≢ painter_area screen.painter → before ≡ None

-- frames go over this area, and nothing was painted yet
pub record IsFitted (old : ScreenState) (area : Rect) (new : ScreenState) : Type 0 where
  pub decoder : new.decoder ≡ old.decoder
  pub area_is : painter_area new.painter ≡ area
  pub colors : painter_colors new.painter ≡ painter_colors old.painter
  pub known : IsKnownBefore old area (painted new.painter)
  pub not_stale : new.is_stale ≡ false

-- a drawn frame in the painter's area and colours
abbrev pub frame_on : Painter → DrawnFrame → PaintedFrame
frame_on painter frame = frame_in (painter_colors painter) (painter_area painter) frame.buffer frame.caret

-- the editor has drawn this frame: what `draw` promises of its cells and its caret
pub record IsEditorFrame (old new : Editor) (frame : DrawnFrame) : Type 0 where
  pub text : ¬ ShowsHelp old → IsPainted (draft_of old).area (draft_of new).area (screen_columns_of old) (screen_rows_of old - 1) frame.buffer
  pub asked : IsAskedInLast old frame.buffer
  pub caret : IsFrameCaret (controls_of old).focus (draft_of new).area (field_of new) frame.caret

-- the bytes lead a terminal from the frame before to this one, and there are none if it shows this one already
pub record IsPaintedOver (painter : Painter) (before : Option PaintedFrame) (frame : PaintedFrame) (out written : List ℕ) : Type 0 where
  pub wrote : Wrote out written (Paints (painter_area painter).width (cell_count (painter_area painter)) before frame)
  pub unchanged : before ≡ Some frame → written ≡ out

-- the terminal shows the frame that the editor has drawn, with its caret
pub record IsFrameShown (old new : ScreenState) (editor drawn : Editor) (out written : List ℕ) : Type 0 where
  pub decoder : new.decoder ≡ old.decoder
  pub colors : painter_colors new.painter ≡ painter_colors old.painter
  pub not_stale : new.is_stale ≡ false
  pub frame : DrawnFrame
  pub drawn_is : IsEditorFrame editor drawn frame
  pub shows : painted new.painter ≡ Some (frame_on new.painter frame)
  pub before : Option PaintedFrame
  pub known : IsKnownBefore old (painter_area new.painter) before
  pub painted_over : IsPaintedOver new.painter before (frame_on new.painter frame) out written

-- ---- its clipboard

-- ESC, 27, with `]52;c;`, the text in base64, and BEL, 7
abbrev pub clipboard_bytes : List ℕ → List ℕ
clipboard_bytes text = 27 ∷ codes "]52;c;" ++ encode_of standard text ++ 7 ∷ []
