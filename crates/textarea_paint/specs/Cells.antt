-- Grapheme clusters in a row, and the cells that show the row from one of its columns on.
use Rattle.std.specs.Prelude.{◌≡◌, ℕ, ◌≤◌, ◌+◌, ◌-◌, min, Bool, ◌&&◌, ◌==◌, nat_lt, nat_le, List, [], ◌∷◌, Option, None, Some, if◌then◌else◌}
use Rattle.std.specs.List.{find}
use Rattle.textarea_screen.specs.Buffer.{Change, is_between, wide_symbol}
use Rattle.textarea_screen.specs.Cell.{CellView, with_symbol}
use Rattle.textarea_screen.specs.Rect.{contains}
use Rattle.textarea_screen.specs.declared.screen.rect.Rect.{Rect}
use Rattle.textarea_screen.specs.declared.screen.style.Style.{Style}
use Rattle.textarea_paint.specs.Clusters.{Cluster}
use Rattle.textarea_paint.specs.Columns.{columns_of}
use Rattle.textarea_paint.specs.declared.paint.cells.Pen.{Pen}
use Rattle.textarea_paint.specs.declared.paint.cells.RowCells.{RowCells}

-- ---- the row

-- a cluster that starts at the column `start` of the row
pub record Placed : Type 0 where
  pub text : List ℕ
  pub style : Style
  pub start : ℕ

abbrev pub placed_at : ℕ → Cluster → Placed
placed_at start cluster = record { text = cluster.text; style = cluster.style; start = start }

-- clusters one after another from the column `start` on: each starts where the last one ends
abbrev pub place_from : ℕ → List Cluster → List Placed
place_from start [] = []
place_from start (cluster ∷ clusters) = placed_at start cluster ∷ place_from (start + columns_of cluster.text) clusters

-- whether the cluster takes the column; a cluster of no columns takes none
abbrev pub covers : ℕ → Placed → Bool
covers column placed = nat_le placed.start column && nat_lt column (placed.start + columns_of placed.text)

-- ---- the cells

-- whether the cell in column x and row y is one of these cells
abbrev pub is_in_cells : RowCells → ℕ → ℕ → Bool
is_in_cells cells = is_between cells.y cells.x (cells.x + cells.width)

-- the column of one of the cells, or the one after them
abbrev pub IsColumnWithin : RowCells → ℕ → Type 0
IsColumnWithin cells x = (cells.x ≤ x) × (x ≤ cells.x + cells.width)

-- whether no edge of the cells cuts the cluster, if they show the row from the column `left` on
abbrev pub is_whole : RowCells → ℕ → Placed → Bool
is_whole cells left placed = nat_le left placed.start && nat_le (placed.start + columns_of placed.text) (left + cells.width)

-- the text that a cluster puts into a column that it takes; it is whole if no edge cuts it
abbrev pub symbol_in_column : RowCells → ℕ → Placed → ℕ → List ℕ
symbol_in_column cells left placed column = wide_symbol (is_whole cells left placed) (column == placed.start) placed.text

-- a cell that shows this column, after the cluster that takes the column is drawn, if there is one
abbrev pub covered_cell : RowCells → ℕ → ℕ → Option Placed → CellView → CellView
covered_cell cells left column None cell = cell
covered_cell cells left column (Some placed) cell = with_symbol (symbol_in_column cells left placed column) placed.style cell

-- a cell after a row is drawn: one of these cells gets its column's cluster, if any; others none
unfoldable pub row_change : RowCells → ℕ → List Placed → Change
row_change cells left row x y cell =
    if is_in_cells cells x y then covered_cell cells left (left + (x - cells.x)) (find (covers (left + (x - cells.x))) row) cell else cell

-- ---- the pen

-- the pen is at the column of the row: left of the cells, in them, or at their end if it is past it
pub record IsPenAt (cells : RowCells) (left column : ℕ) (pen : Pen) : Type 0 where
  pub hidden : pen.hidden ≡ left - column
  pub x : pen.x ≡ cells.x + min (column - left) cells.width

-- the pen is at some column of a row
abbrev pub IsAnyPen : RowCells → Pen → Type 0
IsAnyPen cells pen = (left : ℕ) × (column : ℕ) × IsPenAt cells left column pen

-- a cluster of this many columns at the pen is whole in the cells, and in the area of the buffer
abbrev pub is_room_at : Rect → RowCells → Pen → ℕ → Bool
is_room_at area cells pen columns = (pen.hidden == 0) && (nat_le columns (min (cells.x + cells.width) (area.x + area.width) - pen.x) && contains area pen.x cells.y)
