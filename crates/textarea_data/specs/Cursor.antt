-- A position as a cursor, and as a row and a column.
use Rattle.std.specs.Prelude.{ℕ}
use Rattle.textarea_data.specs.declared.cursor.DataCursor.{DataCursor}

-- the cursor at a row and a column
abbrev pub cursor_of : ℕ × ℕ → DataCursor
cursor_of place = record { 0 = place.0; 1 = place.1 }

-- the row and the column of a cursor
abbrev pub place_of_cursor : DataCursor → ℕ × ℕ
place_of_cursor cursor = (cursor.0, cursor.1)
