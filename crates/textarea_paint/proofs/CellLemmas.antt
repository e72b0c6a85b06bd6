-- The cells of a row, drawn cluster by cluster.
use Rattle.std.proofs.Common.{◌≡◌, ℕ, ◌+◌, ◌-◌, ◌<◌, ◌≤◌, min, Bool, true, false, cond, eqb, ◌&&◌, List, [], ◌∷◌, Option, None, Some, refl, ap, ◌∙◌, arith}
use Rattle.std.specs.List.{find}
use Rattle.std.proofs.lemmas.Bool.Decides.{nat_tests}
use Rattle.std.proofs.lemmas.Bool.{cond-true, cond-false}
use Rattle.textarea_screen.specs.Buffer.{is_between, wide_change, wide_symbol}
use Rattle.textarea_screen.specs.Cell.{CellView, with_symbol}
use Rattle.textarea_paint.specs.Cells.{Placed, placed_at, place_from, covers, is_in_cells, is_whole, symbol_in_column, covered_cell, row_change, IsPenAt}
use Rattle.textarea_paint.specs.Clusters.{Cluster}
use Rattle.textarea_paint.specs.Columns.{columns_of}
use Rattle.textarea_paint.specs.declared.paint.cells.Pen.{Pen}
use Rattle.textarea_paint.specs.declared.paint.cells.RowCells.{RowCells}

-- ---- tests

covers_bounds : (column : ℕ) (placed : Placed) → covers column placed ≡ true → (placed.start ≤ column) × (column < placed.start + columns_of placed.text)
covers_bounds column placed h = (grind (arith, nat_tests), grind (arith, nat_tests))

-- ---- one cluster before others

-- no cluster takes a column before the first cluster
pub find-before : (column start : ℕ) (clusters : List Cluster) → column < start → find (covers column) (place_from start clusters) ≡ None
find-before column start [] before = refl
find-before column start (cluster ∷ clusters) before = grind (arith, nat_tests, find-before column (start + columns_of cluster.text) clusters (omega arith))

covered-then : (cells : RowCells) (left column : ℕ) (here : Bool) (placed : Placed) (after : Option Placed) (cell : CellView) → (here ≡ true → after ≡ None) →
    covered_cell cells left column after (covered_cell cells left column (cond here (Some placed) None) cell) ≡ covered_cell cells left column (cond here (Some placed) after) cell
covered-then cells left column true placed after cell none = rw (none refl) refl
covered-then cells left column false placed after cell none = refl

-- a change of only these cells, after another one
pub cond-then : (inside : Bool) (f g both : CellView → CellView) (cell : CellView) → g (f cell) ≡ both cell →
    cond inside (g (cond inside (f cell) cell)) (cond inside (f cell) cell) ≡ cond inside (both cell) cell
cond-then true f g both cell same = same
cond-then false f g both cell same = refl

-- a change that leaves the other cells as they are
pub cond-within : (inside : Bool) (f : CellView → CellView) (cell : CellView) → (inside ≡ false → f cell ≡ cell) → f cell ≡ cond inside (f cell) cell
cond-within true f cell out = refl
cond-within false f cell out = out refl

-- a row is its first cluster and then the others
pub row_change-cons : (cells : RowCells) (left start : ℕ) (cluster : Cluster) (clusters : List Cluster) (x y : ℕ) (cell : CellView) →
    row_change cells left (place_from (start + columns_of cluster.text) clusters) x y (row_change cells left (placed_at start cluster ∷ []) x y cell)
    ≡ row_change cells left (place_from start (cluster ∷ clusters)) x y cell
unfolding row_change
row_change-cons cells left start cluster clusters x y cell =
    let column = left + (x - cells.x) in
    let after = find (covers column) (place_from (start + columns_of cluster.text) clusters) in
    cond-then (is_in_cells cells x y)
    (λ c. covered_cell cells left column (cond (covers column (placed_at start cluster)) (Some (placed_at start cluster)) None) c)
    (λ c. covered_cell cells left column after c)
    (λ c. covered_cell cells left column (cond (covers column (placed_at start cluster)) (Some (placed_at start cluster)) after) c) cell
    (covered-then cells left column (covers column (placed_at start cluster)) (placed_at start cluster) after cell
    (λ here. find-before column (start + columns_of cluster.text) clusters (covers_bounds column (placed_at start cluster) here).1))

-- without clusters the cells are unchanged
pub row_change-nil : (cells : RowCells) (left x y : ℕ) (cell : CellView) → row_change cells left [] x y cell ≡ cell
unfolding row_change
row_change-nil cells left x y cell = elim (is_in_cells cells x y) as (λ inside. cond inside cell cell ≡ cell) [ true ↦ refl | false ↦ refl ]

pub cond-none : (cells : RowCells) (left column : ℕ) (inside : Bool) (found : Option Placed) (cell : CellView) → (inside ≡ true → found ≡ None) →
    cond inside (covered_cell cells left column found cell) cell ≡ cell
cond-none cells left column true found cell none = rw (none refl) refl
cond-none cells left column false found cell none = refl

-- so they are if all clusters start after the column that the cell shows
pub row_change-past : (cells : RowCells) (left start : ℕ) (clusters : List Cluster) (x y : ℕ) (cell : CellView) →
    (cells.x ≤ x → x < cells.x + cells.width → left + (x - cells.x) < start) →
    row_change cells left (place_from start clusters) x y cell ≡ cell
unfolding row_change
row_change-past cells left start clusters x y cell past =
    cond-none cells left (left + (x - cells.x)) (is_in_cells cells x y) (find (covers (left + (x - cells.x))) (place_from start clusters)) cell
    (λ inside. find-before (left + (x - cells.x)) start clusters (past (grind (arith, nat_tests)) (grind (arith, nat_tests))))

-- cells outside of the row are unchanged
pub row_change-outside : (cells : RowCells) (left : ℕ) (row : List Placed) (x y : ℕ) (cell : CellView) → is_in_cells cells x y ≡ false → row_change cells left row x y cell ≡ cell
unfolding row_change
row_change-outside cells left row x y cell outside = cond-false _ _ _ outside

-- ---- one cluster

-- where a cluster is drawn: `hidden` of its columns are not shown, and `displayed` of the others
-- are
pub record IsDrawnAt (cells : RowCells) (pen : Pen) (columns hidden displayed : ℕ) : Type 0 where
  pub left_of : hidden ≡ min columns pen.hidden
  pub inside : displayed ≡ min (columns - hidden) ((cells.x + cells.width) - pen.x)

module _ (cells : RowCells) (pen : Pen) (left column hidden displayed : ℕ) (cluster : Cluster) (at : IsPenAt cells left column pen) (drawn : IsDrawnAt cells pen (columns_of cluster.text) hidden displayed) where
  -- the drawn cells are those whose columns the cluster takes
  drawn_test : (x y : ℕ) → is_between cells.y pen.x (pen.x + displayed) x y ≡ (is_in_cells cells x y && covers (left + (x - cells.x)) (placed_at column cluster))
  drawn_test x y = grind (arith, nat_tests, at.hidden, at.x, drawn.left_of, drawn.inside)

  -- the cluster is whole if all of its columns are drawn
  drawn_whole : (x y : ℕ) → is_between cells.y pen.x (pen.x + displayed) x y ≡ true → eqb displayed (columns_of cluster.text) ≡ is_whole cells left (placed_at column cluster)
  drawn_whole x y h = grind (arith, nat_tests, at.hidden, at.x, drawn.left_of, drawn.inside)

  -- its first cell shows its first column
  drawn_first : (x y : ℕ) → is_between cells.y pen.x (pen.x + displayed) x y ≡ true → is_whole cells left (placed_at column cluster) ≡ true →
      eqb x pen.x ≡ eqb (left + (x - cells.x)) column
  drawn_first x y h whole = grind (arith, nat_tests, at.hidden, at.x, drawn.left_of, drawn.inside)

cond-one : (cells : RowCells) (left column : ℕ) (placed : Placed) (test inside here : Bool) (symbol : List ℕ) (cell : CellView) → test ≡ (inside && here) →
    (test ≡ true → symbol ≡ symbol_in_column cells left placed column) →
    cond test (with_symbol symbol placed.style cell) cell ≡ cond inside (covered_cell cells left column (cond here (Some placed) None) cell) cell
cond-one cells left column placed test true true symbol cell is same = cond-true test _ _ is ∙ ap (λ s. with_symbol s placed.style cell) (same is)
cond-one cells left column placed test true false symbol cell is same = cond-false test _ _ is
cond-one cells left column placed test false here symbol cell is same = cond-false test _ _ is

-- the result is the row of only this cluster
pub row_change-one : (cells : RowCells) (pen : Pen) (left column hidden displayed : ℕ) (cluster : Cluster) → IsPenAt cells left column pen →
    IsDrawnAt cells pen (columns_of cluster.text) hidden displayed → (x y : ℕ) (cell : CellView) →
    wide_change pen.x cells.y (pen.x + displayed) cluster.text (eqb displayed (columns_of cluster.text)) cluster.style x y cell
    ≡ row_change cells left (placed_at column cluster ∷ []) x y cell
unfolding row_change
row_change-one cells pen left column hidden displayed cluster at drawn x y cell =
    cond-one cells left (left + (x - cells.x)) (placed_at column cluster) (is_between cells.y pen.x (pen.x + displayed) x y) (is_in_cells cells x y)
    (covers (left + (x - cells.x)) (placed_at column cluster))
    (wide_symbol (eqb displayed (columns_of cluster.text)) (eqb x pen.x) cluster.text) cell
    (drawn_test cells pen left column hidden displayed cluster at drawn x y)
    (λ h.
    let whole = drawn_whole cells pen left column hidden displayed cluster at drawn x y h in
    let first = drawn_first cells pen left column hidden displayed cluster at drawn x y h in
    grind (arith, nat_tests))
