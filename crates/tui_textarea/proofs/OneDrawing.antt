-- A drawing determines each cell.
use Rattle.std.proofs.Common.{◌≡◌, ℕ, Bool, true, false, List, sym, subst, ap, ◌∙◌}
use Rattle.tui_textarea.specs.DrawingPrelude.{option_map, text_and_layout, AreLinesOf, AreLinesWith, frame_change, WidgetState, frame_of, FrameState, shows_placeholder, IsDrawn}
use Rattle.tui_textarea.specs.DrawingPrelude.{BorrowedRows, FillsArea, SceneState, Changes, area_of, cell_at, LineView, Buffer, Rect, ViewportState}
use Rattle.tui_textarea.proofs.DrawnRows.{IsViewedOnce}
use Rattle.tui_textarea.proofs.Rects.{inner_once}

-- the list of lines that fills an area is unique
abbrev pub FillsOnce : Type 0
FillsOnce = (scene : SceneState) (top : ℕ) (area buffer : Rect) (lines others : List LineView) → FillsArea scene top area buffer lines → FillsArea scene top area buffer others → lines ≡ others

lines_once : (fills_once : FillsOnce) (b : Bool) (frame : FrameState) (viewport : ViewportState) (inner buffer : Rect) (lines others : List LineView)
    → AreLinesWith b frame viewport inner buffer lines → AreLinesWith b frame viewport inner buffer others → lines ≡ others
lines_once fills_once true frame viewport inner buffer lines others h k = h ∙ sym k
lines_once fills_once false frame viewport inner buffer lines others h k = fills_once frame.scene viewport.row inner buffer lines others h k

-- the cells after these lines are drawn into an inner area
abbrev HasEffect : WidgetState → Rect → Buffer → Buffer → Rect → BorrowedRows → Type 0
HasEffect widget area old new inner rows = (lines : List LineView)
    × AreLinesOf (frame_of widget rows) widget.drawing.viewport inner (area_of old) lines
    × Changes old new (frame_change (frame_of widget rows) widget.drawing.viewport area inner lines)

made_once : (fills_once : FillsOnce) (widget : WidgetState) (area inner : Rect) (rows : BorrowedRows) (old first second : Buffer)
    → HasEffect widget area old first inner rows → HasEffect widget area old second inner rows → (x y : ℕ) → cell_at first x y ≡ cell_at second x y
made_once fills_once widget area inner rows old first second h k x y =
    let frame = frame_of widget rows in
    h.2.cells x y
    ∙ ap (λ (lines : List LineView). option_map (frame_change frame widget.drawing.viewport area inner lines x y) (cell_at old x y))
    (lines_once fills_once (shows_placeholder frame) frame widget.drawing.viewport inner (area_of old) h.0 k.0 h.1 k.1)
    ∙ sym (k.2.cells x y)

pub drawn_once : (viewed_once : IsViewedOnce) (fills_once : FillsOnce) (widget : WidgetState) (area : Rect) (old first second : Buffer)
    → IsDrawn widget area old first → IsDrawn widget area old second → (x y : ℕ) → cell_at first x y ≡ cell_at second x y
drawn_once viewed_once fills_once widget area old first second h k =
    let inner : k.inner ≡ h.inner = inner_once widget.surround.block area k.inner h.inner k.inner_is h.inner_is in
    let rows : k.rows ≡ h.rows = viewed_once (text_and_layout widget.document) k.rows h.rows k.rows_are h.rows_are in
    made_once fills_once widget area h.inner h.rows old first second (h.lines, h.lines_are, h.cells)
    (subst (λ (r : BorrowedRows). HasEffect widget area old second h.inner r) rows
    (subst (λ (a : Rect). HasEffect widget area old second a k.rows) inner (k.lines, k.lines_are, k.cells)))
