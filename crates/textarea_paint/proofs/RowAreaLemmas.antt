-- The effect of drawing a row of cells, for an area.
use Rattle.std.proofs.lemmas.Grind.{common_steps}
use Rattle.std.proofs.Common.{◌≡◌, ◌≢◌, ◌≤◌, ℕ, true, false, ◌&&◌, List, refl, sym, ap, ap₂, ◌∙◌, arith}
use Rattle.std.proofs.lemmas.Bool.{cond-false}
use Rattle.std.proofs.lemmas.Bool.Decides.{nat_tests}
use Rattle.textarea_screen.specs.Buffer.{area_of, Changes, HasNone, KeepsOutside}
use Rattle.textarea_screen.specs.Cell.{CellView}
use Rattle.textarea_screen.specs.Rect.{contains, is_in_row}
use Rattle.textarea_screen.specs.Text.{LineView}
use Rattle.textarea_screen.proofs.ChangeLemmas.{Changes-as, KeepsOutside-wider}
use Rattle.textarea_screen.specs.declared.screen.buffer.Buffer.{Buffer}
use Rattle.textarea_screen.specs.declared.screen.rect.Rect.{Rect}
use Rattle.textarea_screen.specs.declared.screen.alignment.Alignment.{Alignment}
use Rattle.textarea_screen.specs.declared.screen.alignment.Alignment.TheVariants.{Left, Center, Right}
use Rattle.textarea_paint.specs.Cells.{Placed, is_in_cells, place_from, row_change}
use Rattle.textarea_paint.specs.Clusters.{Cluster, row_clusters}
use Rattle.textarea_paint.specs.Row.{cells_of_row, first_visible_column, fitting, placed_row, line_offset, row_cell}
use Rattle.textarea_paint.specs.declared.paint.row.RowArea.{RowArea}
use Rattle.textarea_paint.proofs.CellLemmas.{cond-within, row_change-outside}

-- rows that an area shares with another, the first of them being `visible`, and rows that it
-- doesn't
abbrev pub Meets : Rect → Rect → Rect → Type 0
Meets area other visible = (x y : ℕ) → contains visible x y ≡ (contains area x y && contains other x y)

pub unseen_row : (area other visible : Rect) (row : ℕ) → Meets area other visible → contains visible visible.x row ≡ false → (x y : ℕ) → contains other x y ≡ true → is_in_row area row x y ≡ false
unseen_row area other visible row meets none x y inside = let h = meets x y in grind (arith, nat_tests)

pub row_cell-outside : (rows : RowArea) (row : ℕ) (line : LineView) (x y : ℕ) (cell : CellView) → is_in_row rows.area row x y ≡ false → row_cell rows row line x y cell ≡ cell
unfolding row_cell
row_cell-outside rows row line x y cell outside = cond-false (is_in_row rows.area row x y) _ _ outside

-- ---- a row in the middle or at the right

pub first_visible-fitting : (alignment : Alignment) (left : ℕ) → alignment ≢ Left → first_visible_column alignment left ≡ 0
first_visible-fitting Left left not = absurd (not refl)
first_visible-fitting Center left not = refl
first_visible-fitting Right left not = refl

pub placed_row-fitting : (alignment : Alignment) (width start : ℕ) (clusters : List Cluster) → alignment ≢ Left → start ≡ line_offset alignment width clusters →
    placed_row alignment width clusters ≡ place_from start (fitting width clusters)
placed_row-fitting Left width start clusters not is = absurd (not refl)
placed_row-fitting Center width start clusters not is = ap (λ n. place_from n (fitting width clusters)) (sym is)
placed_row-fitting Right width start clusters not is = ap (λ n. place_from n (fitting width clusters)) (sym is)

pub row_start-within : (alignment : Alignment) (width : ℕ) (clusters : List Cluster) → line_offset alignment width clusters ≤ width
row_start-within Left width clusters = omega arith
row_start-within Center width clusters = omega arith
row_start-within Right width clusters = omega arith

-- ---- the cells of a row

-- the area and another have cells of this row in common
module _ (rows : RowArea) (other visible : Rect) (row : ℕ) (meets : Meets rows.area other visible) (here : contains visible visible.x row ≡ true) where
  in_row : (x y : ℕ) → is_in_cells (cells_of_row rows.area row) x y ≡ is_in_row rows.area row x y
  in_row x y = let in_area = meets visible.x row in grind (arith, nat_tests)

  -- the change of the row's cells is the change of the area's row
  pub row_of_texts : {old new : Buffer} (line : LineView) (left : ℕ) (placed : List Placed) → first_visible_column rows.alignment rows.left ≡ left →
      placed_row rows.alignment rows.area.width (row_clusters rows.style line) ≡ placed →
      Changes old new (row_change (cells_of_row rows.area row) left placed) → Changes old new (row_cell rows row line)
  unfolding row_cell
  row_of_texts line left placed at_left at_placed drawn =
      Changes-as (row_cell rows row line) drawn
      (λ x y cell.
      ap₂ (λ l p. row_change (cells_of_row rows.area row) l p x y cell) (sym at_left) (sym at_placed)
      ∙ cond-within (is_in_row rows.area row x y)
      (row_change (cells_of_row rows.area row) (first_visible_column rows.alignment rows.left) (placed_row rows.alignment rows.area.width (row_clusters rows.style line)) x y) cell
      (λ outside. row_change-outside (cells_of_row rows.area row) _ _ x y cell (in_row x y ∙ outside)))

  pub unchanged_outside : {old new : Buffer} → KeepsOutside (is_in_cells (cells_of_row rows.area row)) old new → KeepsOutside (is_in_row rows.area row) old new
  unchanged_outside unchanged = KeepsOutside-wider (is_in_row rows.area row) unchanged (λ x y outside. in_row x y ∙ outside)

  -- a buffer of the other area has a cell of the row
  pub not_none : (buffer : Buffer) → other ≡ area_of buffer → HasNone (is_in_row rows.area row) buffer → ⊥
  not_none buffer is none = grind (arith, common_steps, nat_tests)
