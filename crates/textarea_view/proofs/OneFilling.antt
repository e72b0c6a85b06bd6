-- Only one list of lines shows a scene.
use Rattle.std.proofs.Common.{◌≡◌, ℕ, ◌+◌, List, [], ◌∷◌, length, refl, sym, ap, ◌∙◌, arith}
use Rattle.textarea_view.specs.Prelude.{Highlights, ShowsRow, row_clusters, line_offset, RowArea, LineView, Rect, AreDisplayed, FillsArea, IsRowStart, row_highlights, SceneState}

module _ (one_line : (h : Highlights) (line other : LineView) → ShowsRow h line → ShowsRow h other → line ≡ other) where
  displayed_once : (scene : SceneState) (row : ℕ) (lines others : List LineView) → length lines ≡ length others →
      AreDisplayed scene row lines → AreDisplayed scene row others → lines ≡ others
  displayed_once scene row [] [] e displayed displayed' = refl
  displayed_once scene row [] (other ∷ others) e displayed displayed' = absurd (omega (arith, e))
  displayed_once scene row (line ∷ lines) [] e displayed displayed' = absurd (omega (arith, e))
  displayed_once scene row (line ∷ lines) (other ∷ others) e displayed displayed' =
      ap (λ l. l ∷ lines) (one_line (row_highlights scene row) line other displayed.0 displayed'.0)
      ∙ ap (λ ls. other ∷ ls) (displayed_once scene (row + 1) lines others (omega (arith, e)) displayed.1 displayed'.1)

  pub filled_once : (scene : SceneState) (top : ℕ) (area buffer : Rect) (lines others : List LineView) →
      FillsArea scene top area buffer lines → FillsArea scene top area buffer others → lines ≡ others
  filled_once scene top area buffer lines others fills fills' =
      displayed_once scene top lines others (fills.all ∙ sym fills'.all) fills.displayed fills'.displayed

  pub starts_once : (scene : SceneState) (rows : RowArea) (row start other : ℕ) →
      IsRowStart scene rows row start → IsRowStart scene rows row other → start ≡ other
  starts_once scene rows row start other begins begins' =
      begins.2
      ∙ ap (λ line. line_offset rows.alignment rows.area.width (row_clusters rows.style line))
      (one_line (row_highlights scene row) begins.0 begins'.0 begins.1 begins'.1)
      ∙ sym begins'.2
