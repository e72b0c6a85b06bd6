-- A part of a row's clusters that has the same effect on its cells as the whole row.
use Rattle.std.proofs.Common.{◌≡◌, ℕ, ◌+◌, ◌-◌, ◌≤◌, ◌⊎◌, Bool, true, false, cond, eqb, List, [], ◌∷◌, ◌++◌, map, sum_by, Option, None, Some, refl, sym, ap, ap₂, ◌∙◌, ⊎_elim, arith}
use Rattle.std.specs.List.{find}
use Rattle.std.specs.Option.{option_map}
use Rattle.std.proofs.lemmas.Bool.{cond-false}
use Rattle.std.proofs.lemmas.Bool.Decides.{nat_tests}
use Rattle.std.proofs.lemmas.List.Sums.{sum_by-append, sum_by-cons}
use Rattle.textarea_screen.specs.Cell.{CellView}
use Rattle.textarea_screen.specs.Rect.{is_in_row}
use Rattle.textarea_screen.specs.Text.{LineView}
use Rattle.textarea_screen.specs.declared.screen.alignment.Alignment.{Alignment}
use Rattle.textarea_screen.specs.declared.screen.alignment.Alignment.TheVariants.{Left}
use Rattle.textarea_screen.specs.declared.screen.style.Style.{Style}
use Rattle.textarea_paint.specs.Cells.{Placed, placed_at, place_from, covers, is_in_cells, is_whole, covered_cell, row_change}
use Rattle.textarea_paint.specs.Clusters.{Cluster, in_style, row_clusters}
use Rattle.textarea_paint.specs.Columns.{columns_of}
use Rattle.textarea_paint.specs.Part.{IsVisiblePart}
use Rattle.textarea_paint.specs.Row.{cells_of_row, clusters_width, first_visible_column, placed_row, row_cell}
use Rattle.textarea_paint.specs.declared.paint.cells.RowCells.{RowCells}
use Rattle.textarea_paint.specs.declared.paint.row.RowArea.{RowArea}
use Rattle.textarea_paint.proofs.CellLemmas.{cond-none, row_change-nil, row_change-past}
use Rattle.textarea_paint.proofs.RowLemmas.{row_change-append}

-- ---- a row and its first column that is shown, both moved to the right

abbrev moved_right : ℕ → Placed → Placed
moved_right by placed = record placed { start = placed.start + by }

covers-moved : (by column start : ℕ) (cluster : Cluster) → covers (column + by) (placed_at (start + by) cluster) ≡ covers column (placed_at start cluster)
covers-moved by column start cluster = grind (arith, nat_tests)

find_step : (by : ℕ) (here here' : Bool) (placed : Placed) (after after' : Option Placed) → here' ≡ here → after' ≡ option_map (moved_right by) after →
    cond here' (Some (moved_right by placed)) after' ≡ option_map (moved_right by) (cond here (Some placed) after)
find_step by true here' placed after after' same later = rw same refl
find_step by false here' placed after after' same later = rw same later

find-moved : (by column start : ℕ) (clusters : List Cluster) →
    find (covers (column + by)) (place_from (start + by) clusters) ≡ option_map (moved_right by) (find (covers column) (place_from start clusters))
find-moved by column start [] = refl
find-moved by column start (cluster ∷ clusters) =
    let next : (start + by) + columns_of cluster.text ≡ (start + columns_of cluster.text) + by = omega arith in
    find_step by (covers column (placed_at start cluster)) (covers (column + by) (placed_at (start + by) cluster)) (placed_at start cluster)
    (find (covers column) (place_from (start + columns_of cluster.text) clusters))
    (find (covers (column + by)) (place_from ((start + by) + columns_of cluster.text) clusters)) (covers-moved by column start cluster)
    (ap (λ n. find (covers (column + by)) (place_from n clusters)) next ∙ find-moved by column (start + columns_of cluster.text) clusters)

whole-moved : (cells : RowCells) (left by : ℕ) (placed : Placed) → is_whole cells (left + by) (moved_right by placed) ≡ is_whole cells left placed
whole-moved cells left by placed = grind (arith, nat_tests)

first-moved : (column start by : ℕ) → eqb (column + by) (start + by) ≡ eqb column start
first-moved column start by = grind (arith, nat_tests)

covered-moved : (cells : RowCells) (left by column : ℕ) (found : Option Placed) (cell : CellView) →
    covered_cell cells (left + by) (column + by) (option_map (moved_right by) found) cell ≡ covered_cell cells left column found cell
covered-moved cells left by column None cell = refl
covered-moved cells left by column (Some placed) cell = rw (whole-moved cells left by placed, first-moved column placed.start by) refl

row_change-moved : (cells : RowCells) (left by start : ℕ) (clusters : List Cluster) (x y : ℕ) (cell : CellView) →
    row_change cells (left + by) (place_from (start + by) clusters) x y cell ≡ row_change cells left (place_from start clusters) x y cell
unfolding row_change
row_change-moved cells left by start clusters x y cell =
    let column = left + (x - cells.x) in
    let same : (left + by) + (x - cells.x) ≡ column + by = omega arith in
    ap (λ c. cond (is_in_cells cells x y) c cell)
    (ap (λ n. covered_cell cells (left + by) n (find (covers n) (place_from (start + by) clusters)) cell) same
    ∙ ap (λ found. covered_cell cells (left + by) (column + by) found cell) (find-moved by column start clusters)
    ∙ covered-moved cells left by column (find (covers column) (place_from start clusters)) cell)

-- ---- clusters left of the cells

pub covers-ended : (column start : ℕ) (cluster : Cluster) → start + columns_of cluster.text ≤ column → covers column (placed_at start cluster) ≡ false
covers-ended column start cluster ended = grind (arith, nat_tests)

pub find-ended : (column start : ℕ) (clusters : List Cluster) → start + clusters_width clusters ≤ column → find (covers column) (place_from start clusters) ≡ None
find-ended column start [] ended = refl
find-ended column start (cluster ∷ clusters) ended =
    let width = sum_by-cons (λ (c : Cluster). columns_of c.text) cluster clusters in
    cond-false _ _ _ (covers-ended column start cluster (omega (arith, width)))
    ∙ find-ended column (start + columns_of cluster.text) clusters (omega (arith, width))

row_change-ended : (cells : RowCells) (left start : ℕ) (clusters : List Cluster) (x y : ℕ) (cell : CellView) → start + clusters_width clusters ≤ left →
    row_change cells left (place_from start clusters) x y cell ≡ cell
unfolding row_change
row_change-ended cells left start clusters x y cell ended =
    cond-none cells left (left + (x - cells.x)) (is_in_cells cells x y) (find (covers (left + (x - cells.x))) (place_from start clusters)) cell
    (λ inside. find-ended (left + (x - cells.x)) start clusters (omega arith))

-- ---- the part

module _ (cells : RowCells) (left : ℕ) (before part after : List Cluster) where
  after_unseen : (x y : ℕ) (cell : CellView) → (after ≡ []) ⊎ (left + cells.width ≤ clusters_width before + clusters_width part) →
      row_change cells left (place_from (clusters_width before + clusters_width part) after) x y cell ≡ cell
  after_unseen x y cell right =
      ⊎_elim (λ none. rw none (row_change-nil cells left x y cell))
      (λ past. row_change-past cells left (clusters_width before + clusters_width part) after x y cell (λ from to. omega arith)) right

  part_alone : (x y : ℕ) (cell : CellView) → clusters_width before ≤ left → (after ≡ []) ⊎ (left + cells.width ≤ clusters_width before + clusters_width part) →
      row_change cells left (place_from 0 (before ++ (part ++ after))) x y cell ≡ row_change cells (left - clusters_width before) (place_from 0 part) x y cell
  part_alone x y cell seen right =
      let skipped = clusters_width before in
      let zero_first : 0 + skipped ≡ skipped = omega arith in
      let back : left ≡ (left - skipped) + skipped = omega arith in
      sym (row_change-append cells left 0 before (part ++ after) x y cell)
      ∙ ap₂ (λ (n : ℕ) (c : CellView). row_change cells left (place_from n (part ++ after)) x y c) zero_first (row_change-ended cells left 0 before x y cell (omega arith))
      ∙ sym (row_change-append cells left skipped part after x y cell)
      ∙ after_unseen x y (row_change cells left (place_from skipped part) x y cell) right
      ∙ ap₂ (λ (l : ℕ) (n : ℕ). row_change cells l (place_from n part) x y cell) back (sym zero_first)
      ∙ row_change-moved cells (left - skipped) skipped 0 part x y cell

-- the part, drawn from its own column on, has the effect of the row
pub row_change-part : {cells : RowCells} {left : ℕ} {row part : List Cluster} (p : IsVisiblePart cells left row part) (x y : ℕ) (cell : CellView) →
    row_change cells left (place_from 0 row) x y cell ≡ row_change cells (left - clusters_width p.before) (place_from 0 part) x y cell
row_change-part {cells} {left} {row} {part} p x y cell =
    ap (λ clusters. row_change cells left (place_from 0 clusters) x y cell) p.row_is
    ∙ part_alone cells left p.before part p.after x y cell p.left_edge p.right_edge

-- so has a line in a row of an area, if it shows the part of another line
pub row_cell-part : (rows : RowArea) (y : ℕ) (line part : LineView) → rows.alignment ≡ Left →
    (p : IsVisiblePart (cells_of_row rows.area y) rows.left (row_clusters rows.style line) (row_clusters rows.style part)) → (column row : ℕ) (cell : CellView) →
    row_cell rows y line column row cell ≡ row_cell (record rows { left = rows.left - clusters_width p.before }) y part column row cell
unfolding row_cell
row_cell-part rows y line part at_left p column row cell =
    ap (λ c. cond (is_in_row rows.area y column row) c cell)
    (ap (λ (a : Alignment). row_change (cells_of_row rows.area y) (first_visible_column a rows.left) (placed_row a rows.area.width (row_clusters rows.style line)) column row cell) at_left
    ∙ row_change-part p column row cell
    ∙ ap (λ (a : Alignment). row_change (cells_of_row rows.area y) (first_visible_column a (rows.left - clusters_width p.before)) (placed_row a rows.area.width (row_clusters rows.style part)) column row cell) (sym at_left))

-- ---- the clusters of texts

pub clusters_width-append : (clusters others : List Cluster) → clusters_width (clusters ++ others) ≡ clusters_width clusters + clusters_width others
clusters_width-append clusters others = sum_by-append (λ (c : Cluster). columns_of c.text) clusters others

pub clusters_width-texts : (style : Style) (texts : List (List ℕ)) → clusters_width (map (in_style style) texts) ≡ sum_by columns_of texts
clusters_width-texts style [] = refl
clusters_width-texts style (text ∷ texts) =
    omega (arith, sum_by-cons (λ (c : Cluster). columns_of c.text) (in_style style text) (map (in_style style) texts), sum_by-cons columns_of text texts, clusters_width-texts style texts)
