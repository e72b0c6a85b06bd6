-- Frames that are shown, and events that report a size.
use Rattle.std.proofs.Common.{◌≡◌, ◌∙◌, ◌||◌, ℕ, Bool, List, [], ◌∷◌, ◌++◌, OnOk, Option, Some, Result, Ok, Err, ap, map, refl, subst, sym}
use Rattle.std.specs.List.{list_any}
use Rattle.textarea_editor.specs.TerminalScreen.{IsEditorFrame, IsFitted, IsFrameShown, IsKnownBefore, IsPaintedOver, ScreenState, events_read, frame_on, reports_size, screen_read}
use Rattle.textarea_editor.specs.declared.editor.Editor.{Editor}
use Rattle.textarea_editor.specs.declared.editor.drawing.DrawnFrame.{DrawnFrame}
use Rattle.textarea_screen.specs.declared.screen.rect.Rect.{Rect}
use Rattle.textarea_terminal.specs.InputEvent.{EventValue, value_of}
use Rattle.textarea_terminal.specs.InputState.{DecoderState}
use Rattle.textarea_terminal.specs.InputStream.{Adds}
use Rattle.textarea_terminal.specs.Paint.{PaintedFrame, Paints, Wrote}
use Rattle.textarea_terminal.specs.PaintArea.{cell_count, frame_in}
use Rattle.textarea_terminal.specs.Painter.{painted, painter_area, painter_colors}
use Rattle.textarea_terminal.specs.declared.input.event.Event.{Event}
use Rattle.textarea_terminal.specs.declared.output.colors.Colors.{Colors}
use Rattle.textarea_terminal.specs.declared.output.painter.Painter.{Painter}

-- whether one of the elements that others become passes a test
any_mapped : {A B : Type 0} (test : B → Bool) (f : A → B) (xs : List A) → list_any (λ x. test (f x)) xs ≡ list_any test (map f xs)
any_mapped test f [] = refl
any_mapped test f (x ∷ xs) = ap (λ (passed : Bool). test (f x) || passed) (any_mapped test f xs)

-- ---- what is read

abbrev pub screen_of : DecoderState → Painter → Bool → ScreenState
screen_of decoder painter is_stale = record { decoder = decoder; painter = painter; is_stale = is_stale }

-- what is added to nothing is all
pub added_alone : (old new : List Event) (values : List EventValue) → old ≡ [] → Adds old new values → map value_of new ≡ values
added_alone old new values none adds = ap (λ (events : List Event). map value_of events) (adds.whole ∙ ap (λ (events : List Event). events ++ adds.added) none) ∙ adds.values_are

-- the events that were read tell whether all cells are to be drawn
pub state_read : (screen : ScreenState) (bytes : List ℕ) (milliseconds : ℕ) (decoder : DecoderState) (events : List Event) (found : Bool)
    → decoder ≡ (events_read screen.decoder bytes milliseconds).1 → map value_of events ≡ (events_read screen.decoder bytes milliseconds).0
    → found ≡ list_any (λ (event : Event). reports_size (value_of event)) events → screen_of decoder screen.painter (screen.is_stale || found) ≡ screen_read screen bytes milliseconds
state_read screen bytes milliseconds decoder events found decoded values is =
    ap (λ (d : DecoderState). screen_of d screen.painter (screen.is_stale || found)) decoded
    ∙ ap (λ (b : Bool). screen_of (events_read screen.decoder bytes milliseconds).1 screen.painter (screen.is_stale || b))
    (is ∙ any_mapped reports_size value_of events ∙ ap (λ (all : List EventValue). list_any reports_size all) values)

-- ---- what is shown

-- two facts of a success give a third
pub on_ok_both : {T E P Q R : Type 0} (result : Result T E) → (P → Q → R) → OnOk result P → OnOk result Q → OnOk result R
on_ok_both (Ok value) both first second = both first second
on_ok_both (Err error) both first second = tt

-- a painter that keeps its area and colours shows the same of a frame
frame_kept : (old new : Painter) (frame : DrawnFrame) → painter_area new ≡ painter_area old → painter_colors new ≡ painter_colors old → frame_on old frame ≡ frame_on new frame
frame_kept old new frame area colors =
    ap (λ (a : Rect). frame_in (painter_colors old) a frame.buffer frame.caret) (sym area)
    ∙ ap (λ (c : Colors). frame_in c (painter_area new) frame.buffer frame.caret) (sym colors)

-- what is known before a frame, over an equal area
known_over : (screen : ScreenState) (area other : Rect) (before : Option PaintedFrame) → other ≡ area → IsKnownBefore screen area before → IsKnownBefore screen other before
known_over screen area other before same known = subst (λ (a : Rect). IsKnownBefore screen a before) (sym same) known

-- bytes that lead to a frame lead to an equal one of a painter with the same area
painted_over : (old new : Painter) (before : Option PaintedFrame) (frame other : PaintedFrame) (out written : List ℕ) → painter_area new ≡ painter_area old → frame ≡ other
    → IsPaintedOver old before frame out written → IsPaintedOver new before other out written
painted_over old new before frame other out written area same over = record {
  wrote =
      subst (λ (a : Rect). Wrote out written (Paints a.width (cell_count a) before other)) (sym area)
      (subst (λ (f : PaintedFrame). Wrote out written (Paints (painter_area old).width (cell_count (painter_area old)) before f)) same over.wrote);
  unchanged = λ shown. over.unchanged (shown ∙ ap (λ (f : PaintedFrame). Some f) (sym same));
}

-- a frame is painted by a painter that is made ready for its area
pub frame_shown : (old fitted new : ScreenState) (area : Rect) (editor drawn : Editor) (frame : DrawnFrame) (out written : List ℕ) → IsFitted old area fitted
    → IsEditorFrame editor drawn frame → new.decoder ≡ fitted.decoder → new.is_stale ≡ fitted.is_stale → painter_area new.painter ≡ painter_area fitted.painter
    → painter_colors new.painter ≡ painter_colors fitted.painter → painted new.painter ≡ Some (frame_on fitted.painter frame)
    → IsPaintedOver fitted.painter (painted fitted.painter) (frame_on fitted.painter frame) out written → IsFrameShown old new editor drawn out written
frame_shown old fitted new area editor drawn frame out written ready is decoder stale same colors shows over =
    let kept = frame_kept fitted.painter new.painter frame same colors in
    record {
      decoder = decoder ∙ ready.decoder;
      colors = colors ∙ ready.colors;
      not_stale = stale ∙ ready.not_stale;
      frame = frame;
      drawn_is = is;
      shows = shows ∙ ap (λ (f : PaintedFrame). Some f) kept;
      before = painted fitted.painter;
      known = known_over old area (painter_area new.painter) (painted fitted.painter) (same ∙ ready.area_is) ready.known;
      painted_over = painted_over fitted.painter new.painter (painted fitted.painter) (frame_on fitted.painter frame) (frame_on new.painter frame) out written same kept over;
    }
