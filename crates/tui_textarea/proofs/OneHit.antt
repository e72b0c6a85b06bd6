-- A cell shows at most one position.
use Rattle.std.proofs.Common.{◌≡◌, ◌↔◌, ℕ, Bool, true, false, Option, None, Some, refl, sym, subst, ap, ap₂, ◌∙◌, inl, inr, arith}
use Rattle.std.proofs.lemmas.Bool.Decides.{nat_tests}
use Rattle.tui_textarea.specs.DrawingPrelude.{is_some, text_and_layout, WidgetState, frame_of, FrameState, number_width, shows_placeholder, IsHitTest, IsLastArea, IsHitBy}
use Rattle.tui_textarea.specs.DrawingPrelude.{IsHitInRows, IsHitOf, IsHitWith, IsNear, VisualPosition, greatest_at, IsStart, HasRowView, row_area, row_view, BorrowedRows, RowArea}
use Rattle.tui_textarea.specs.DrawingPrelude.{IsRowStart, SceneState, contains, Alignment, Left, Center, Right, Rect, Place, hit_column, ViewportState, RowView}
use Rattle.tui_textarea.proofs.DrawnRows.{IsPlacedOnce, IsViewedOnce, near_once}
use Rattle.tui_textarea.specs.Drawing.{widget_of}
use Rattle.tui_textarea.specs.Hit.{IsWithoutCell}
use Rattle.tui_textarea.specs.State.{State}
use Rattle.tui_textarea.proofs.Rects.{last_area_once}

-- a visual row begins at one column
abbrev pub BeginsOnce : Type 0
BeginsOnce = (scene : SceneState) (rows : RowArea) (row start other : ℕ) → IsRowStart scene rows row start → IsRowStart scene rows row other → start ≡ other

-- ---- a visual row begins at one column of the area

start_once : (begins_once : BeginsOnce) (alignment : Alignment) (scene : SceneState) (rows : RowArea) (row start other : ℕ) → IsStart alignment scene rows row start → IsStart alignment scene rows row other → start ≡ other
start_once begins_once Left scene rows row start other h k = h ∙ sym k
start_once begins_once Center scene rows row start other h k = begins_once scene rows row start other h k
start_once begins_once Right scene rows row start other h k = begins_once scene rows row start other h k

pub lies_once : (begins_once : BeginsOnce) (scene : SceneState) (viewport : ViewportState) (inner : Rect) (row : ℕ) (view other : RowView) → HasRowView scene viewport inner row view → HasRowView scene viewport inner row other → view ≡ other
lies_once begins_once scene viewport inner row view other h k =
    h.view_is
    ∙ ap (λ (start : ℕ). row_view scene.look.alignment viewport inner start (number_width scene)) (start_once begins_once scene.look.alignment scene (row_area scene.look inner viewport.column) row h.start k.start h.start_is k.start_is)
    ∙ sym k.view_is

-- ---- the hit test

pub some_same : (row other : ℕ) (found : Option ℕ) → found ≡ Some row → found ≡ Some other → other ≡ row
some_same row other found e f = cc (e, f)

abbrev pub wanted_at : BorrowedRows → ℕ → ℕ → RowView → VisualPosition
wanted_at rows x row view = record { row = row; column = hit_column view (greatest_at rows row) x }

in_rows_once : (placed_once : IsPlacedOnce) (begins_once : BeginsOnce) (scene : SceneState) (viewport : ViewportState) (inner : Rect) (x y : ℕ) (place other : Place)
    → IsHitInRows scene viewport inner x y place → IsHitInRows scene viewport inner x y other → place ≡ other
in_rows_once placed_once begins_once scene viewport inner x y place other h k =
    let row : k.row ≡ h.row = some_same h.row k.row _ h.row_is k.row_is in
    let view : k.view ≡ h.view = lies_once begins_once scene viewport inner h.row k.view h.view (subst (λ (r : ℕ). HasRowView scene viewport inner r k.view) row k.view_is) h.view_is in
    near_once placed_once scene.rows (wanted_at scene.rows x h.row h.view) place other h.near
    (subst (λ (wanted : VisualPosition). IsNear scene.rows wanted other) (ap₂ (wanted_at scene.rows x) row view) k.near)

hit_with_once : (placed_once : IsPlacedOnce) (begins_once : BeginsOnce) (b : Bool) (frame : FrameState) (viewport : ViewportState) (inner : Rect) (x y : ℕ) (place other : Place)
    → IsHitWith b frame viewport inner x y place → IsHitWith b frame viewport inner x y other → place ≡ other
hit_with_once placed_once begins_once true frame viewport inner x y place other h k = h ∙ sym k
hit_with_once placed_once begins_once false frame viewport inner x y place other h k = in_rows_once placed_once begins_once frame.scene viewport inner x y place other h k

hit_by_once : (placed_once : IsPlacedOnce) (begins_once : BeginsOnce) (b : Bool) (frame : FrameState) (viewport : ViewportState) (inner : Rect) (x y : ℕ) (found other : Option Place)
    → IsHitBy b frame viewport inner x y found → IsHitBy b frame viewport inner x y other → found ≡ other
hit_by_once placed_once begins_once false frame viewport inner x y found other h k = h ∙ sym k
hit_by_once placed_once begins_once true frame viewport inner x y found other h k =
    h.1 ∙ ap Some (hit_with_once placed_once begins_once (shows_placeholder frame) frame viewport inner x y h.0 k.0 h.2 k.2) ∙ sym k.1

pub hit_once : (viewed_once : IsViewedOnce) (placed_once : IsPlacedOnce) (begins_once : BeginsOnce) (widget : WidgetState) (x y : ℕ) (found other : Option Place) → IsHitTest widget x y found → IsHitTest widget x y other → found ≡ other
hit_once viewed_once placed_once begins_once widget x y found other h k =
    let inner : k.inner ≡ h.inner = last_area_once widget.document widget.drawing k.inner h.inner k.inner_is h.inner_is in
    let rows : k.rows ≡ h.rows = viewed_once (text_and_layout widget.document) k.rows h.rows k.rows_are h.rows_are in
    hit_by_once placed_once begins_once (contains h.inner x y) (frame_of widget h.rows) widget.drawing.viewport h.inner x y found other h.found_is
    (subst (λ (r : BorrowedRows). IsHitOf (frame_of widget r) widget.drawing.viewport h.inner x y other) rows
    (subst (λ (a : Rect). IsHitOf (frame_of widget k.rows) widget.drawing.viewport a x y other) inner k.found_is))

-- ---- when there is a position

some_by : (b : Bool) (frame : FrameState) (viewport : ViewportState) (inner : Rect) (x y : ℕ) (found : Option Place) → IsHitBy b frame viewport inner x y found → is_some found ≡ b
some_by false frame viewport inner x y found h = ap is_some h
some_by true frame viewport inner x y found h = ap is_some h.1

pub some_where_visible : (widget : WidgetState) (x y : ℕ) (found : Option Place) → IsHitTest widget x y found → (inner : Rect) → IsLastArea widget.document widget.drawing inner → is_some found ≡ contains inner x y
some_where_visible widget x y found h inner last =
    some_by (contains h.inner x y) (frame_of widget h.rows) widget.drawing.viewport h.inner x y found h.found_is
    ∙ ap (λ (a : Rect). contains a x y) (last_area_once widget.document widget.drawing h.inner inner h.inner_is last)

-- the law of drawings: there is a position exactly for a cell of the inner area
abbrev pub IsHitInside : Type 0
IsHitInside = (widget : WidgetState) (x y : ℕ) (found : Option Place) → IsHitTest widget x y found → (inner : Rect) → IsLastArea widget.document widget.drawing inner → is_some found ≡ contains inner x y

contains_none : (area : Rect) (x y : ℕ) → IsWithoutCell area x y → contains area x y ≡ false
contains_none area x y (inl narrow) = grind (arith, nat_tests)
contains_none area x y (inr (inl low)) = grind (arith, nat_tests)
contains_none area x y (inr (inr out)) = out

none_by : (found : Option Place) (inside : Bool) → is_some found ≡ inside → (found ≡ None) ↔ (inside ≡ false)
none_by None inside e = (λ none. sym e, λ out. refl)
none_by (Some place) inside e = (λ some. absurd cc, λ out. let never : true ≡ false = e ∙ out in absurd cc)

pub none_outside : IsHitInside → (state : State) (x y : ℕ) (found : Option Place) (inner : Rect) → IsLastArea state.document state.drawing inner → IsHitTest (widget_of state) x y found → (found ≡ None) ↔ IsWithoutCell inner x y
none_outside law state x y found inner last h =
    let tells = none_by found (contains inner x y) (law (widget_of state) x y found h inner last) in
    (λ none. inr (inr (tells.0 none)), λ out. tells.1 (contains_none inner x y out))
