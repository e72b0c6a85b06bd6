-- Positions of a line that are known, with their byte offsets and display columns.
use Rattle.std.specs.Prelude.{◌≡◌, ℕ, ◌*◌, ◌<◌, ◌≤◌, List, [], length, take, get_or, encode_utf8_all}
use Rattle.textarea_screen_map.specs.declared.line_marks.Mark.{Mark}
use Rattle.textarea_screen_map.specs.VisualRows.{column_at}

-- the start of a line
abbrev pub line_start : Mark
line_start = record { column = 0; offset = 0; display = 0 }

-- The mark is a column of the line, given by its characters, with the byte offset and the display
-- column there. No column before it has that display column, and a byte takes at most 255 columns.
pub record IsMark (tab_len : ℕ) (line : List ℕ) (mark : Mark) : Type 0 where
  pub within : mark.column ≤ length line
  pub offset_is : mark.offset ≡ length (encode_utf8_all (take mark.column line))
  pub display_is : mark.display ≡ column_at tab_len line mark.column
  pub first : (k : ℕ) → k < mark.column → column_at tab_len line k < mark.display
  pub near : mark.display ≤ 255 * mark.offset

-- each is a mark of the line, and none is before the one before it
pub record AreMarks (tab_len : ℕ) (line : List ℕ) (marks : List Mark) : Type 0 where
  pub right : (i : ℕ) → i < length marks → IsMark tab_len line (get_or marks i line_start)
  pub ordered : (i j : ℕ) → i ≤ j → j < length marks → (get_or marks i line_start).column ≤ (get_or marks j line_start).column

-- the row of a line, the columns between tab stops, and marks
pub record MarkedLine : Type 0 where
  pub row : ℕ
  pub tab_len : ℕ
  pub marks : List Mark

-- these are marks of the line in the row, at these tab stops
abbrev pub AreMarksOf : List (List ℕ) → MarkedLine → Type 0
AreMarksOf lines marked = AreMarks marked.tab_len (get_or lines marked.row []) marked.marks

-- All lines are the same but for the one in the row, which is the same before the column.
pub record IsSameBefore (old new : List (List ℕ)) (row column : ℕ) : Type 0 where
  pub others : (i : ℕ) → (i ≡ row → ⊥) → get_or new i [] ≡ get_or old i []
  pub front : take column (get_or new row []) ≡ take column (get_or old row [])
