-- Facts determined by a view of the rows.
use Rattle.std.proofs.Common.{◌≡◌, ℕ, List, sym, subst}
use Rattle.tui_textarea.specs.DrawingPrelude.{IsNear, TextAndLayout, wrapping_of, BorrowedRows, IsViewOf, AreRowsOf, IsPlaceAt, IsVisualPosition, VisualPosition, Wrapping, Place, RowsView}

-- a text with its layout has one view
abbrev pub IsViewedOnce : Type 0
IsViewedOnce = (text_layout : TextAndLayout) (view other : BorrowedRows) → IsViewOf text_layout view → IsViewOf text_layout other → view ≡ other

-- a position has one visual row and display column
abbrev pub HasOneVisualPosition : Type 0
HasOneVisualPosition = (wrapping : Wrapping) (lines : List (List ℕ)) (rows : List RowsView) (place : Place) (visual other : VisualPosition)
    → AreRowsOf wrapping lines rows → IsVisualPosition wrapping.tab_len lines rows place visual → IsVisualPosition wrapping.tab_len lines rows place other
    → visual ≡ other

-- a visual row and a display column have one position
abbrev pub IsPlacedOnce : Type 0
IsPlacedOnce = (tab_len : ℕ) (lines : List (List ℕ)) (rows : List RowsView) (visual : VisualPosition) (place other : Place) → IsPlaceAt tab_len lines rows visual place → IsPlaceAt tab_len lines rows visual other → place ≡ other

-- the rows of a view are correct rows of the lines, for its wrapping
pub borrowed_right : (text_layout : TextAndLayout) (rows : BorrowedRows) → IsViewOf text_layout rows → AreRowsOf rows.wrapping rows.lines rows.rows
borrowed_right text_layout rows h =
    subst (λ (w : Wrapping). AreRowsOf w rows.lines rows.rows) (sym h.wrapping)
    (subst (λ (l : List (List ℕ)). AreRowsOf (wrapping_of text_layout) l rows.rows) (sym h.lines) h.rows.text_layout)

-- the cursor's visual position in the rows of a view
pub visual_in : (once : HasOneVisualPosition) (text_layout : TextAndLayout) (rows : BorrowedRows) (place : Place) (visual other : VisualPosition)
    → IsViewOf text_layout rows → IsVisualPosition rows.wrapping.tab_len rows.lines rows.rows place visual
    → IsVisualPosition rows.wrapping.tab_len rows.lines rows.rows place other → visual ≡ other
visual_in once text_layout rows place visual other h = once rows.wrapping rows.lines rows.rows place visual other (borrowed_right text_layout rows h)

pub near_once : (once : IsPlacedOnce) (rows : BorrowedRows) (wanted : VisualPosition) (place other : Place) → IsNear rows wanted place → IsNear rows wanted other → place ≡ other
near_once once rows wanted place other = once rows.wrapping.tab_len rows.lines rows.rows _ place other
