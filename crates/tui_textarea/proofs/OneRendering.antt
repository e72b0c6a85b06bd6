-- A drawing leads to one state.
use Rattle.std.proofs.Common.{◌≡◌, ℕ, Bool, true, false, Option, sym, subst, ap, ap₂, ◌∙◌}
use Rattle.tui_textarea.specs.DrawingPrelude.{text_and_layout, with_inner_width, WidgetState, frame_of, FrameState, number_width, shows_placeholder, IsPlacement, IsPlacementInRows}
use Rattle.tui_textarea.specs.DrawingPrelude.{IsPlacementWith, HasRowView, Placement, viewport_at, IsWidgetRendered, at_inner_width, drawn_into, BorrowedRows, IsViewOf, AreRowsOf}
use Rattle.tui_textarea.specs.DrawingPrelude.{SceneState, Rect, VisualPosition, caret_at, ViewportState, RowView, WrapMode}
use Rattle.tui_textarea.proofs.DrawnRows.{HasOneVisualPosition, IsViewedOnce, borrowed_right}
use Rattle.tui_textarea.proofs.OneHit.{BeginsOnce, lies_once}
use Rattle.tui_textarea.proofs.Rects.{inner_once}

-- the rows of a scene are correct rows of its lines
abbrev HasRightRows : SceneState → Type 0
HasRightRows scene = AreRowsOf scene.rows.wrapping scene.rows.lines scene.rows.rows

in_rows_once : (one_visual_position : HasOneVisualPosition) (begins_once : BeginsOnce) (scene : SceneState) (mode : WrapMode) (viewport : ViewportState) (inner : Rect) (placement other : Placement)
    → HasRightRows scene → IsPlacementInRows scene mode viewport inner placement → IsPlacementInRows scene mode viewport inner other → placement ≡ other
in_rows_once one_visual_position begins_once scene mode viewport inner placement other right h k =
    let visual : h.visual ≡ k.visual = one_visual_position scene.rows.wrapping scene.rows.lines scene.rows.rows scene.cursor h.visual k.visual right h.visual_is k.visual_is in
    let displayed : placement.viewport ≡ other.viewport = h.viewport_is ∙ ap (viewport_at mode viewport inner (number_width scene)) visual ∙ sym k.viewport_is in
    let view : h.view ≡ k.view =
    lies_once begins_once scene other.viewport inner k.visual.row h.view k.view
    (subst (λ (p : VisualPosition). HasRowView scene other.viewport inner p.row h.view) visual
    (subst (λ (v : ViewportState). HasRowView scene v inner h.visual.row h.view) displayed h.view_is)) k.view_is in
    let caret : placement.caret ≡ other.caret = h.caret_is ∙ ap₂ (λ (v : RowView) (p : VisualPosition). caret_at v p.row p.column) view visual ∙ sym k.caret_is in
    ap₂ (λ (v : ViewportState) (c : Option (ℕ × ℕ)). record { viewport = v; caret = c }) displayed caret

placed_with_once : (one_visual_position : HasOneVisualPosition) (begins_once : BeginsOnce) (b : Bool) (frame : FrameState) (viewport : ViewportState) (inner : Rect) (placement other : Placement)
    → HasRightRows frame.scene → IsPlacementWith b frame viewport inner placement → IsPlacementWith b frame viewport inner other → placement ≡ other
placed_with_once one_visual_position begins_once true frame viewport inner placement other right h k = h ∙ sym k
placed_with_once one_visual_position begins_once false frame viewport inner placement other right h k =
    in_rows_once one_visual_position begins_once frame.scene frame.mode viewport inner placement other right h k

-- a viewport and caret for an inner area
abbrev IsPlacedAt : WidgetState → Rect → Placement → Type 0
IsPlacedAt old inner placement = (rows : BorrowedRows) × IsViewOf (text_and_layout (with_inner_width old.document inner.width)) rows × IsPlacement (frame_of (at_inner_width old inner.width) rows) old.drawing.viewport inner placement

placed_once : (viewed_once : IsViewedOnce) (one_visual_position : HasOneVisualPosition) (begins_once : BeginsOnce) (old : WidgetState) (inner : Rect) (placement other : Placement)
    → IsPlacedAt old inner placement → IsPlacedAt old inner other → placement ≡ other
placed_once viewed_once one_visual_position begins_once old inner placement other h k =
    let text_layout = text_and_layout (with_inner_width old.document inner.width) in
    let frame = frame_of (at_inner_width old inner.width) h.0 in
    placed_with_once one_visual_position begins_once (shows_placeholder frame) frame old.drawing.viewport inner placement other (borrowed_right text_layout h.0 h.1) h.2
    (subst (λ (rows : BorrowedRows). IsPlacement (frame_of (at_inner_width old inner.width) rows) old.drawing.viewport inner other) (viewed_once text_layout k.0 h.0 k.1 h.1) k.2)

-- the parts after a drawing into an inner area
abbrev after_drawing : WidgetState → Rect → Placement → WidgetState
after_drawing old inner placement = record (at_inner_width old inner.width) { drawing = drawn_into old.drawing inner placement }

pub rendered_once : (viewed_once : IsViewedOnce) (one_visual_position : HasOneVisualPosition) (begins_once : BeginsOnce) (old first second : WidgetState) (area : Rect)
    → IsWidgetRendered old area first → IsWidgetRendered old area second → first ≡ second
rendered_once viewed_once one_visual_position begins_once old first second area h k =
    let inner : h.inner ≡ k.inner = inner_once old.surround.block area h.inner k.inner h.inner_is k.inner_is in
    let placement : h.placement ≡ k.placement =
    placed_once viewed_once one_visual_position begins_once old k.inner h.placement k.placement
    (subst (λ (a : Rect). IsPlacedAt old a h.placement) inner (h.rows, h.rows_are, h.placing_is)) (k.rows, k.rows_are, k.placing_is) in
    h.new_is ∙ ap₂ (after_drawing old) inner placement ∙ sym k.new_is
