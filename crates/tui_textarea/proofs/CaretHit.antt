-- The hit test of the cell of a caret that is shown returns the cursor.
use Rattle.std.proofs.Common.{◌≡◌, ℕ, zero, suc, ◌-◌, ◌<◌, ◌≤◌, ◌⊎◌, inl, inr, ◌==◌, ◌||◌, ◌&&◌, min, Bool, true, false, not, List, [], ◌∷◌, Option, None, Some, if◌then◌else◌, ap, ap₂, arith, refl, subst, sym, ◌∙◌}
use Rattle.std.proofs.lemmas.Bool.Decides.{nat_tests}
use Rattle.tui_textarea.specs.DrawingPrelude.{has_symbols, text_and_layout, with_inner_width, IsCaretHit, WidgetState, frame_of, FrameState, has_lines, number_width}
use Rattle.tui_textarea.specs.DrawingPrelude.{shows_placeholder, IsLastArea, IsHitBy, IsHitInRows, IsHitOf, IsHitWith, IsNear, greatest_at, IsPlacement, IsPlacementInRows}
use Rattle.tui_textarea.specs.DrawingPrelude.{IsPlacementWith, HasRowView, Placement, corner_caret, row_view, IsWidgetRendered, at_inner_width, drawn_into, TextAndLayout, at_width}
use Rattle.tui_textarea.specs.DrawingPrelude.{with_settings, BorrowedRows, IsViewOf, LayoutSettings, AreRowsOf, row_total, greatest_column, row_at, HasNoZeroWidth, IsPlaceAt}
use Rattle.tui_textarea.specs.DrawingPrelude.{IsVisualPosition, VisualPosition, Wrapping, SceneState, contains, Alignment, Left, Center, Right, Rect, IsPlace, Place, Symbol}
use Rattle.tui_textarea.specs.DrawingPrelude.{caret_at, hit_column, hit_row, left_view, at_start, ViewportState, RowView, RowsView}
use Rattle.tui_textarea.proofs.DrawnRows.{IsViewedOnce, borrowed_right}
use Rattle.tui_textarea.proofs.OneHit.{BeginsOnce, lies_once, some_same, wanted_at}
use Rattle.tui_textarea.proofs.Rects.{last_area_once}

-- ---- the laws of the caret and of the map of visual rows

abbrev pub HitsRow : Type 0
HitsRow = (view : RowView) (row column last_row x y : ℕ) → caret_at view row column ≡ Some (x, y) → row ≤ last_row → hit_row view.top_row view.inner_area last_row x y ≡ Some row

abbrev pub HitsColumn : Type 0
HitsColumn = (view : RowView) (row column greatest x y : ℕ) → (view.offset ≡ 0) ⊎ (view.left_column ≡ 0) → caret_at view row column ≡ Some (x, y) → column ≤ greatest → hit_column view greatest x ≡ column

abbrev pub HasCornerCaret : Type 0
HasCornerCaret = (area : Rect) → 0 < area.width → 0 < area.height → caret_at (left_view (at_start area) area 0) 0 0 ≡ Some (area.x, area.y)

abbrev pub IsVisualInRow : Type 0
IsVisualInRow = (wrapping : Wrapping) (lines : List (List ℕ)) (rows : List RowsView) (place : Place) (visual : VisualPosition) → AreRowsOf wrapping lines rows
    → IsVisualPosition wrapping.tab_len lines rows place visual → visual.row < row_total rows

abbrev pub IsVisualAtColumn : Type 0
IsVisualAtColumn = (tab_len : ℕ) (lines : List (List ℕ)) (rows : List RowsView) (place : Place) (visual : VisualPosition)
    → IsVisualPosition tab_len lines rows place visual → visual.column ≤ greatest_column tab_len (row_at lines rows visual.row)

abbrev pub IsFoundAgain : Type 0
IsFoundAgain = (tab_len : ℕ) (lines : List (List ℕ)) (rows : List RowsView) (place : Place) (visual : VisualPosition) (found : Place)
    → IsVisualPosition tab_len lines rows place visual → HasNoZeroWidth (row_at lines rows visual.row).text → IsPlaceAt tab_len lines rows visual found → found ≡ place

abbrev pub PutsSettings : Type 0
PutsSettings = (text_layout : TextAndLayout) (settings : LayoutSettings) → (with_settings text_layout settings).layout.settings ≡ settings

pub record Laws : Type 0 where
  pub hits_row : HitsRow
  pub hits_column : HitsColumn
  pub corner : HasCornerCaret
  pub visual_row_is : IsVisualInRow
  pub visual_column_is : IsVisualAtColumn
  pub visual_round_trip : IsFoundAgain
  pub viewed_once : IsViewedOnce
  pub begins_once : BeginsOnce
  pub settings_put : PutsSettings

-- ---- a row

abbrev LiesIn : ViewportState → Rect → RowView → Type 0
LiesIn viewport inner view = (view.top_row ≡ viewport.row) × (view.inner_area ≡ inner) × ((view.offset ≡ 0) ⊎ (view.left_column ≡ 0))

view_lies : (alignment : Alignment) (viewport : ViewportState) (inner : Rect) (start columns : ℕ) → LiesIn viewport inner (row_view alignment viewport inner start columns)
view_lies Left viewport inner start columns = (refl, refl, inl refl)
view_lies Center viewport inner start columns = (refl, refl, inr refl)
view_lies Right viewport inner start columns = (refl, refl, inr refl)

lies_in : (scene : SceneState) (viewport : ViewportState) (inner : Rect) (row : ℕ) (view : RowView) → HasRowView scene viewport inner row view → LiesIn viewport inner view
lies_in scene viewport inner row view h =
    subst (LiesIn viewport inner) (sym h.view_is) (view_lies scene.look.alignment viewport inner h.start (number_width scene))

inside_by : (b : Bool) (n row : ℕ) → (if b then Some n else None) ≡ Some row → b ≡ true
inside_by true n row e = refl
inside_by false n row e = absurd cc

-- the cell is in the inner area, and shows only the cursor
record LeadsBack (b : Bool) (frame : FrameState) (viewport : ViewportState) (inner : Rect) (x y : ℕ) : Type 0 where
  inside : contains inner x y ≡ true
  only : (place : Place) → IsHitWith b frame viewport inner x y place → place ≡ frame.scene.cursor

abbrev HasWideRow : SceneState → Type 0
HasWideRow scene = (visual : VisualPosition) → IsVisualPosition scene.rows.wrapping.tab_len scene.rows.lines scene.rows.rows scene.cursor visual → HasNoZeroWidth (row_at scene.rows.lines scene.rows.rows visual.row).text

in_rows : (laws : Laws) (frame : FrameState) (viewport : ViewportState) (inner : Rect) (placement : Placement) (x y : ℕ)
    → AreRowsOf frame.scene.rows.wrapping frame.scene.rows.lines frame.scene.rows.rows → IsPlacementInRows frame.scene frame.mode viewport inner placement
    → placement.caret ≡ Some (x, y) → HasWideRow frame.scene → LeadsBack false frame placement.viewport inner x y
in_rows laws frame viewport inner placement x y right h e wide =
    let scene = frame.scene in
    let rows = scene.rows in
    let last = row_total rows.rows - 1 in
    let lies = lies_in scene placement.viewport inner h.visual.row h.view h.view_is in
    let caret : caret_at h.view h.visual.row h.visual.column ≡ Some (x, y) = sym h.caret_is ∙ e in
    let below : h.visual.row < row_total rows.rows = laws.visual_row_is rows.wrapping rows.lines rows.rows scene.cursor h.visual right h.visual_is in
    let hit : hit_row placement.viewport.row inner last x y ≡ Some h.visual.row =
    ap₂ (λ (top : ℕ) (area : Rect). hit_row top area last x y) (sym lies.0) (sym lies.1)
    ∙ laws.hits_row h.view h.visual.row h.visual.column last x y caret (omega (arith, below)) in
    record {
      inside = inside_by (contains inner x y) _ h.visual.row hit;
      only = λ place k. only_cursor place k hit;
    }
  where
    only_cursor : (place : Place) → IsHitInRows frame.scene placement.viewport inner x y place → hit_row placement.viewport.row inner (row_total frame.scene.rows.rows - 1) x y ≡ Some h.visual.row → place ≡ frame.scene.cursor
    only_cursor place k hit =
        let scene = frame.scene in
        let rows = scene.rows in
        let lies = lies_in scene placement.viewport inner h.visual.row h.view h.view_is in
        let caret : caret_at h.view h.visual.row h.visual.column ≡ Some (x, y) = sym h.caret_is ∙ e in
        let greatest = greatest_at rows h.visual.row in
        let reached : h.visual.column ≤ greatest = laws.visual_column_is rows.wrapping.tab_len rows.lines rows.rows scene.cursor h.visual h.visual_is in
        let row : k.row ≡ h.visual.row = some_same h.visual.row k.row _ hit k.row_is in
        let view : k.view ≡ h.view = lies_once laws.begins_once scene placement.viewport inner h.visual.row k.view h.view (subst (λ (r : ℕ). HasRowView scene placement.viewport inner r k.view) row k.view_is) h.view_is in
        let column : hit_column h.view greatest x ≡ h.visual.column = laws.hits_column h.view h.visual.row h.visual.column greatest x y lies.2 caret reached in
        let near : IsNear rows h.visual place = subst (λ (wanted : VisualPosition). IsNear rows wanted place) (ap₂ (wanted_at rows x) row view ∙ ap (λ (n : ℕ). record { row = h.visual.row; column = n }) column) k.near in
        let least : min h.visual.column greatest ≡ h.visual.column = omega (arith, reached) in
        laws.visual_round_trip rows.wrapping.tab_len rows.lines rows.rows scene.cursor h.visual place h.visual_is (wide h.visual h.visual_is)
        (subst (λ (n : ℕ). IsPlaceAt rows.wrapping.tab_len rows.lines rows.rows (record { row = h.visual.row; column = n }) place) least near)

-- ---- a placeholder

corner_of : (w h : ℕ) (corner cell : ℕ × ℕ) → (if (w == 0) || (h == 0) then None else Some corner) ≡ Some cell → (0 < w) × (0 < h) × (corner ≡ cell)
corner_of zero h corner cell e = absurd cc
corner_of (suc w) zero corner cell e = let some : (suc w == 0) ≡ false = grind (arith, nat_tests) in absurd cc
corner_of (suc w) (suc h) corner cell e =
    let wide : (suc w == 0) ≡ false = grind (arith, nat_tests) in
    let high : (suc h == 0) ≡ false = grind (arith, nat_tests) in
    (omega arith, omega arith, cc)

corner_inside : (laws : Laws) (inner : Rect) (x y : ℕ) → corner_caret inner ≡ Some (x, y) → contains inner x y ≡ true
corner_inside laws inner x y e =
    let found = corner_of inner.width inner.height (inner.x, inner.y) (x, y) e in
    let caret = laws.corner inner found.0 found.1 in
    let hit = laws.hits_row (left_view (at_start inner) inner 0) 0 0 0 inner.x inner.y caret (omega arith) in
    subst (λ (cell : ℕ × ℕ). contains inner cell.0 cell.1 ≡ true) found.2 (inside_by (contains inner inner.x inner.y) _ 0 hit)

no_text : (text : List Symbol) (b : Bool) → (not (has_symbols text) && b) ≡ true → text ≡ []
no_text [] b e = refl
no_text (symbol ∷ text) b e = absurd cc

at_the_start : (place : Place) → IsPlace [] place → place ≡ (0, 0)
at_the_start (zero, column) h = ap (λ (n : ℕ). (zero, n)) (omega (arith, h.1))
at_the_start (suc row, column) h = absurd (omega (arith, h.0))

cursor_at_start : (text : List Symbol) (cursor : Place) (b : Bool) → IsPlace text cursor → (not (has_symbols text) && b) ≡ true → cursor ≡ (0, 0)
cursor_at_start text cursor b place e =
    at_the_start cursor (subst (λ (t : List Symbol). IsPlace t cursor) (no_text text b e) place)

-- ---- both

leads_back : (laws : Laws) (b : Bool) (frame : FrameState) (viewport : ViewportState) (inner : Rect) (placement : Placement) (x y : ℕ)
    → (b ≡ true → frame.scene.cursor ≡ (0, 0)) → AreRowsOf frame.scene.rows.wrapping frame.scene.rows.lines frame.scene.rows.rows
    → IsPlacementWith b frame viewport inner placement → placement.caret ≡ Some (x, y) → HasWideRow frame.scene → LeadsBack b frame placement.viewport inner x y
leads_back laws true frame viewport inner placement x y start right h e wide = record {
  inside = corner_inside laws inner x y (ap (λ (p : Placement). p.caret) (sym h) ∙ e);
  only = λ place k. k ∙ sym (start refl);
}
leads_back laws false frame viewport inner placement x y start right h e wide = in_rows laws frame viewport inner placement x y right h e wide

result_leads_back : (frame : FrameState) (viewport : ViewportState) (inner : Rect) (x y : ℕ) (found : Option Place)
    → LeadsBack (shows_placeholder frame) frame viewport inner x y → IsHitOf frame viewport inner x y found → found ≡ Some frame.scene.cursor
result_leads_back frame viewport inner x y found back h =
    let hit : IsHitBy true frame viewport inner x y found = subst (λ (b : Bool). IsHitBy b frame viewport inner x y found) back.inside h in
    hit.1 ∙ ap Some (back.only hit.0 hit.2)

-- the parts after a drawing
abbrev pub made : WidgetState → Rect → Placement → WidgetState
made old inner placement = record (at_inner_width old inner.width) { drawing = drawn_into old.drawing inner placement }

pub made_area : (puts : PutsSettings) (old : WidgetState) (inner : Rect) (placement : Placement) → IsLastArea (made old inner placement).document (made old inner placement).drawing inner
made_area puts old inner placement =
    let text_layout = text_and_layout old.document in
    let width : (with_inner_width old.document inner.width).layout.settings.inner_width ≡ inner.width = ap (λ (s : LayoutSettings). s.inner_width) (puts text_layout (at_width text_layout inner.width)) in
    record {
      x = refl;
      y = refl;
      width = omega (arith, inner.right, width);
      height = omega (arith, inner.bottom);
    }

made_back : (laws : Laws) (old : WidgetState) (inner : Rect) (rows : BorrowedRows) (placement : Placement)
    → IsViewOf (text_and_layout (with_inner_width old.document inner.width)) rows
    → IsPlacement (frame_of (at_inner_width old inner.width) rows) old.drawing.viewport inner placement → IsPlace old.document.text old.document.cursor
    → IsCaretHit (made old inner placement)
made_back laws old inner rows placement view placed place = λ x y found caret wide k.
    let new = made old inner placement in
    let frame = frame_of new rows in
    let area : k.inner ≡ inner = last_area_once new.document new.drawing k.inner inner k.inner_is (made_area laws.settings_put old inner placement) in
    let same : k.rows ≡ rows = laws.viewed_once (text_and_layout new.document) k.rows rows k.rows_are view in
    let back = leads_back laws (shows_placeholder frame) frame old.drawing.viewport inner placement x y
    (cursor_at_start old.document.text old.document.cursor (has_lines old.surround.placeholder.lines) place) (borrowed_right (text_and_layout new.document) rows view) placed caret
    (λ visual h. wide rows visual view h) in
    result_leads_back frame placement.viewport inner x y found back
    (subst (λ (r : BorrowedRows). IsHitOf (frame_of new r) placement.viewport inner x y found) same
    (subst (λ (a : Rect). IsHitOf (frame_of new k.rows) placement.viewport a x y found) area k.found_is))

pub caret_hit : (laws : Laws) (old new : WidgetState) (area : Rect) → IsWidgetRendered old area new → IsPlace new.document.text new.document.cursor → IsCaretHit new
caret_hit laws old new area h =
    subst (λ (p : WidgetState). IsPlace p.document.text p.document.cursor → IsCaretHit p) (sym h.new_is)
    (made_back laws old h.inner h.rows h.placement h.rows_are h.placing_is)
