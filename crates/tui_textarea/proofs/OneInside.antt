-- The nearest visible position is unique.
use Rattle.std.proofs.Common.{◌≡◌, ℕ, ◌-◌, Bool, true, false, sym, subst, ap, ap₂, ◌∙◌}
use Rattle.tui_textarea.specs.DrawingPrelude.{text_and_layout, DocumentState, IsNearestVisible, IsReached, greatest_at, TextAndLayout, BorrowedRows, IsViewOf, row_total}
use Rattle.tui_textarea.specs.DrawingPrelude.{IsVisualPosition, VisualPosition, Place, is_same_visual, ViewportState, clamped}
use Rattle.tui_textarea.proofs.DrawnRows.{IsPlacedOnce, HasOneVisualPosition, IsViewedOnce, near_once, visual_in}

reached_once : (once : IsPlacedOnce) (b : Bool) (rows : BorrowedRows) (wanted : VisualPosition) (cursor place other : Place) → IsReached b rows wanted cursor place → IsReached b rows wanted cursor other → place ≡ other
reached_once once true rows wanted cursor place other e f = e ∙ sym f
reached_once once false rows wanted cursor place other h k = near_once once rows wanted place other h k

-- the row and column that the cursor moves to, from this visual position in these rows
abbrev row_to : BorrowedRows → ViewportState → VisualPosition → ℕ
row_to rows viewport visual = clamped viewport.row viewport.height (row_total rows.rows - 1) visual.row

abbrev column_to : BorrowedRows → ViewportState → VisualPosition → ℕ
column_to rows viewport visual = clamped viewport.column viewport.width (greatest_at rows (row_to rows viewport visual)) visual.column

abbrev nearest : BorrowedRows → ViewportState → VisualPosition → VisualPosition
nearest rows viewport visual = record { row = row_to rows viewport visual; column = column_to rows viewport visual }

-- the position that the cursor moves to in these rows
abbrev LeadsToPlace : BorrowedRows → ViewportState → Place → Place → Type 0
LeadsToPlace rows viewport cursor place = (visual : VisualPosition) × IsVisualPosition rows.wrapping.tab_len rows.lines rows.rows cursor visual
    × IsReached (is_same_visual (nearest rows viewport visual) visual) rows (nearest rows viewport visual) cursor place

leads_to : (document : DocumentState) (viewport : ViewportState) (place : Place) (h : IsNearestVisible document viewport place) → LeadsToPlace h.rows viewport document.cursor place
leads_to document viewport place h =
    let same : record { row = h.row; column = h.column } ≡ nearest h.rows viewport h.visual =
    ap₂ (λ (r c : ℕ). record { row = r; column = c }) h.row_is (h.column_is ∙ ap (λ (r : ℕ). clamped viewport.column viewport.width (greatest_at h.rows r) h.visual.column) h.row_is) in
    (h.visual, h.visual_is, subst (λ (p : VisualPosition). IsReached (is_same_visual p h.visual) h.rows p document.cursor place) same h.place_is)

leads_once : (one_visual_position : HasOneVisualPosition) (placed_once : IsPlacedOnce) (text_layout : TextAndLayout) (rows : BorrowedRows) (viewport : ViewportState) (cursor place other : Place)
    → IsViewOf text_layout rows → LeadsToPlace rows viewport cursor place → LeadsToPlace rows viewport cursor other → place ≡ other
leads_once one_visual_position placed_once text_layout rows viewport cursor place other borrowed h k =
    let same = visual_in one_visual_position text_layout rows cursor k.0 h.0 borrowed k.1 h.1 in
    let wanted = nearest rows viewport h.0 in
    reached_once placed_once (is_same_visual wanted h.0) rows wanted cursor place other h.2
    (subst (λ (s : VisualPosition). IsReached (is_same_visual (nearest rows viewport s) s) rows (nearest rows viewport s) cursor other) same k.2)

pub inside_once : (viewed_once : IsViewedOnce) (one_visual_position : HasOneVisualPosition) (placed_once : IsPlacedOnce) (document : DocumentState) (viewport : ViewportState) (place other : Place)
    → IsNearestVisible document viewport place → IsNearestVisible document viewport other → place ≡ other
inside_once viewed_once one_visual_position placed_once document viewport place other h k =
    leads_once one_visual_position placed_once (text_and_layout document) h.rows viewport document.cursor place other h.rows_are (leads_to document viewport place h)
    (subst (λ (rows : BorrowedRows). LeadsToPlace rows viewport document.cursor other) (viewed_once (text_and_layout document) k.rows h.rows k.rows_are h.rows_are) (leads_to document viewport other k))
