-- Exactly one visual row has the cursor.
use Rattle.std.proofs.Common.{◌≡◌, ◌≢◌, ℕ, ◌-◌, ◌<◌, ◌==◌, Bool, true, false, List, length, refl, sym, ap, ◌∙◌, arith, eq-eqb}
use Rattle.std.proofs.lemmas.Bool.{eqb-true}
use Rattle.std.proofs.lemmas.Bool.Decides.{nat_tests}
use Rattle.textarea_view.specs.Prelude.{Place, RowsView, Wrapping, AreRowsOf, VisualRow, column_at, row_at, visual_rows, IsInRow, IsVisualPosition, VisualPosition, holds_place}
use Rattle.textarea_screen_map.proofs.Once.{one_visual_position}

in_row : (row : VisualRow) (place : Place) → holds_place row place ≡ true → IsInRow row place
in_row row place h = record { line = grind (arith, nat_tests); from = grind (arith, nat_tests); to = grind (arith, nat_tests); before_next = λ last. grind (arith, nat_tests) }

of_row : (row : VisualRow) (place : Place) → IsInRow row place → holds_place row place ≡ true
of_row row place h = by row.is_last refl
  where
    by : (last : Bool) → row.is_last ≡ last → holds_place row place ≡ true
    by true e = grind (arith, nat_tests, h.line, h.from, h.to)
    by false e = grind (arith, nat_tests, h.line, h.from, h.before_next e)

holds_once : (w : Wrapping) (lines : List (List ℕ)) (rows : List RowsView) (place : Place) (row : ℕ) (visual : VisualPosition) → AreRowsOf w lines rows →
    IsVisualPosition w.tab_len lines rows place visual → row < length (visual_rows lines rows) → row ≢ visual.row → holds_place (row_at lines rows row) place ≡ false
holds_once w lines rows place row visual h is within apart = by (holds_place (row_at lines rows row) place) refl
  where
    by : (b : Bool) → holds_place (row_at lines rows row) place ≡ b → b ≡ false
    by false e = refl
    by true e =
        let displayed = row_at lines rows row in
        let other : IsVisualPosition w.tab_len lines rows place (record { row = row; column = column_at w.tab_len displayed.text (place.1 - displayed.first) }) = record { row = within; holds = in_row displayed place e; column = refl } in
        absurd (apart (ap (λ (v : VisualPosition). v.row) (one_visual_position w lines rows place (record { row = row; column = column_at w.tab_len displayed.text (place.1 - displayed.first) }) visual h other is)))

-- the visual row of a position has it
holds_here : (w : Wrapping) (lines : List (List ℕ)) (rows : List RowsView) (place : Place) (visual : VisualPosition) → IsVisualPosition w.tab_len lines rows place visual → holds_place (row_at lines rows visual.row) place ≡ true
holds_here w lines rows place visual is = of_row (row_at lines rows visual.row) place is.holds

-- a visual row has a position exactly if it is the visual row of the position
pub holds_where_visual : (w : Wrapping) (lines : List (List ℕ)) (rows : List RowsView) (place : Place) (row : ℕ) (visual : VisualPosition) → AreRowsOf w lines rows →
    IsVisualPosition w.tab_len lines rows place visual → row < length (visual_rows lines rows) → (row == visual.row) ≡ holds_place (row_at lines rows row) place
holds_where_visual w lines rows place row visual h is within = by (row == visual.row) refl
  where
    by : (b : Bool) → (row == visual.row) ≡ b → b ≡ holds_place (row_at lines rows row) place
    by true e = let same : row ≡ visual.row = eqb-true row visual.row e in sym (ap (λ n. holds_place (row_at lines rows n) place) same ∙ holds_here w lines rows place visual is)
    by false e = sym (holds_once w lines rows place row visual h is within (λ same. cc (e, eq-eqb row visual.row same)))
