-- The visual position of a position of the text, and the position for a visual position.
use Rattle.std.specs.Prelude.{◌≡◌, ◌≢◌, ℕ, ◌+◌, ◌-◌, ◌<◌, ◌≤◌, ◌⊎◌, ◌==◌, ◌&&◌, min, Bool, false, List, length, take}
use Rattle.std.specs.List.{AllByRecursion}
use Rattle.textarea_text.specs.Place.{Place}
use Rattle.textarea_wrap.specs.Columns.{plain_width}
use Rattle.textarea_wrap.specs.RowsView.{RowsView}
use Rattle.textarea_blocks.specs.Sums.{row_total}
use Rattle.textarea_screen_map.specs.declared.layout.VisualPosition.{VisualPosition}
use Rattle.textarea_screen_map.specs.VisualRows.{VisualRow, visual_rows, row_at, column_at, greatest_column}

-- The position belongs to the row: it is in the row's line, at or after the row's first column and
-- before its end. In the last row of the line it may also be at the end.
pub record IsInRow (row : VisualRow) (place : Place) : Type 0 where
  pub line : place.0 ≡ row.line
  pub from : row.first ≤ place.1
  pub to : place.1 ≤ row.first + length row.text
  pub before_next : row.is_last ≡ false → place.1 < row.first + length row.text

-- the row that the position belongs to, and the display column of the row's characters before it
pub record IsVisualPosition (tab_len : ℕ) (lines : List (List ℕ)) (rows : List RowsView) (place : Place) (visual : VisualPosition) : Type 0 where
  pub row : visual.row < length (visual_rows lines rows)
  pub holds : IsInRow (row_at lines rows visual.row) place
  pub column : visual.column ≡ column_at tab_len (row_at lines rows visual.row).text (place.1 - (row_at lines rows visual.row).first)

-- the visual position whose row has this index among the rows of a line
abbrev pub over_all_lines : List RowsView → ℕ → VisualPosition → VisualPosition
over_all_lines rows line visual = record visual { row = row_total (take line rows) + visual.row }

-- whether two visual positions are the same
abbrev pub is_same_visual : VisualPosition → VisualPosition → Bool
is_same_visual one other = (one.row == other.row) && (one.column == other.column)

-- the position is in this visual row, at or before this display column
abbrev pub IsVisualUpTo : ℕ → List (List ℕ) → List RowsView → VisualPosition → Place → Type 0
IsVisualUpTo tab_len lines rows visual place =
    (column : ℕ) × (column ≤ visual.column) × IsVisualPosition tab_len lines rows place (record visual { column = column })

-- ---- back; a position in a row is the number of the row's characters before it

-- the first position of the row at this display column
abbrev pub IsFirstAt : ℕ → List ℕ → ℕ → ℕ → Type 0
IsFirstAt tab_len text column index =
    (index ≤ length text) × (column_at tab_len text index ≡ column) × ((k : ℕ) → k < index → column_at tab_len text k ≢ column)

-- the character at the position covers the column, but doesn't begin there
abbrev pub IsCovered : ℕ → List ℕ → ℕ → ℕ → Type 0
IsCovered tab_len text column index =
    (index < length text) × (column_at tab_len text index < column) × (column < column_at tab_len text (index + 1))

-- the position is the row's end, and the column is past it
abbrev pub IsBeforeColumn : ℕ → List ℕ → ℕ → ℕ → Type 0
IsBeforeColumn tab_len text column index = (index ≡ length text) × (column_at tab_len text index < column)

-- A display column leads to the first position of the row at that column, else to the character
-- that covers it, else, past the row's width, to the row's end. Columns never decrease along a row,
-- so exactly one of these exists. The end of a row that isn't its line's last is in the next row,
-- so only columns up to the greatest cursor column lead to a position in the row itself.
abbrev pub LeadsTo : ℕ → List ℕ → ℕ → ℕ → Type 0
LeadsTo tab_len text column index =
    IsFirstAt tab_len text column index ⊎ IsCovered tab_len text column index ⊎ IsBeforeColumn tab_len text column index

-- a visual row and a display column lead to this position
pub record IsPlaceAt (tab_len : ℕ) (lines : List (List ℕ)) (rows : List RowsView) (visual : VisualPosition) (place : Place) : Type 0 where
  pub row : visual.row < length (visual_rows lines rows)
  pub line : place.0 ≡ (row_at lines rows visual.row).line
  pub from : (row_at lines rows visual.row).first ≤ place.1
  pub leads : LeadsTo tab_len (row_at lines rows visual.row).text visual.column (place.1 - (row_at lines rows visual.row).first)

-- no character has display width 0; a tab has at least one column
abbrev pub HasNoZeroWidth : List ℕ → Type 0
HasNoZeroWidth text = AllByRecursion (λ c. (c ≡ 9) ⊎ (0 < plain_width c)) text

-- ---- up and down

-- the position for a cursor in a visual row at a display column, or at the row's greatest cursor
-- column if that is less
abbrev pub IsPlaceNear : ℕ → List (List ℕ) → List RowsView → VisualPosition → Place → Type 0
IsPlaceNear tab_len lines rows visual place =
    IsPlaceAt tab_len lines rows (record visual { column = min visual.column (greatest_column tab_len (row_at lines rows visual.row)) }) place

-- one visual row up from a position
pub record IsAbove (tab_len : ℕ) (lines : List (List ℕ)) (rows : List RowsView) (place target : Place) : Type 0 where
  pub visual : VisualPosition
  pub visual_position : IsVisualPosition tab_len lines rows place visual
  pub not_first : 0 < visual.row
  pub near : IsPlaceNear tab_len lines rows (record visual { row = visual.row - 1 }) target

-- one visual row down from a position
pub record IsBelow (tab_len : ℕ) (lines : List (List ℕ)) (rows : List RowsView) (place target : Place) : Type 0 where
  pub visual : VisualPosition
  pub visual_position : IsVisualPosition tab_len lines rows place visual
  pub near : IsPlaceNear tab_len lines rows (record visual { row = visual.row + 1 }) target

-- the position is in the first visual row
abbrev pub IsInFirstRow : ℕ → List (List ℕ) → List RowsView → Place → Type 0
IsInFirstRow tab_len lines rows place = (visual : VisualPosition) × IsVisualPosition tab_len lines rows place visual × (visual.row ≡ 0)

-- the position is in the last visual row
abbrev pub IsInLastRow : ℕ → List (List ℕ) → List RowsView → Place → Type 0
IsInLastRow tab_len lines rows place = (visual : VisualPosition) × IsVisualPosition tab_len lines rows place visual × (visual.row + 1 ≡ length (visual_rows lines rows))
