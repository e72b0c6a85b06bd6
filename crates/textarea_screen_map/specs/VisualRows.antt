-- The visual rows of lines, in order, and the columns of their characters.
use Rattle.std.specs.Prelude.{ℕ, ◌+◌, ◌-◌, Bool, true, false, List, [], ◌∷◌, ◌++◌, length, take, drop, get_or, chars, encode_utf8_all, if◌then◌else◌}
use Rattle.textarea_wrap.specs.Columns.{display_end_column}
use Rattle.textarea_wrap.specs.RowsView.{RowsView}

-- A visual row: the number of its line, the bytes of that line before it, the column of that line
-- at which it begins, its characters, and whether it is the last row of its line.
pub record VisualRow : Type 0 where
  pub line : ℕ
  pub start : ℕ
  pub first : ℕ
  pub text : List ℕ
  pub is_last : Bool

-- the row that is this byte range of a line, given by its characters
abbrev pub row_between : ℕ → List ℕ → ℕ × ℕ → Bool → VisualRow
row_between number line range is_last = record {
  line = number;
  start = range.0;
  first = length (chars (take range.0 (encode_utf8_all line)));
  text = chars (take (range.1 - range.0) (drop range.0 (encode_utf8_all line)));
  is_last = is_last;
}

abbrev pub rows_of_line : ℕ → List ℕ → List (ℕ × ℕ) → List VisualRow
rows_of_line number line [] = []
rows_of_line number line (range ∷ []) = row_between number line range true ∷ []
rows_of_line number line (range ∷ next ∷ ranges) = row_between number line range false ∷ rows_of_line number line (next ∷ ranges)

-- the rows of lines, when the first line has this number
abbrev pub rows_from : ℕ → List (List ℕ) → List RowsView → List VisualRow
rows_from number [] rows = []
rows_from number (line ∷ lines) [] = []
rows_from number (line ∷ lines) (rows ∷ rest) = rows_of_line number line rows.ranges ++ rows_from (number + 1) lines rest

-- the rows of all lines
unfoldable pub visual_rows : List (List ℕ) → List RowsView → List VisualRow
visual_rows lines rows = rows_from 0 lines rows

-- the visual row of this number, or an empty one if there is none
unfoldable pub row_at : List (List ℕ) → List RowsView → ℕ → VisualRow
row_at lines rows row = get_or (visual_rows lines rows) row (record { line = 0; start = 0; first = 0; text = []; is_last = true })

-- ---- columns

-- the display column of the position after the first `index` characters of a row
abbrev pub column_at : ℕ → List ℕ → ℕ → ℕ
column_at tab_len text index = display_end_column tab_len 0 (take index text)

-- the column after all characters of a row, with whitespace that hangs over
abbrev pub row_width : ℕ → VisualRow → ℕ
row_width tab_len row = display_end_column tab_len 0 row.text

-- the characters of a row up to its greatest cursor column: of a row that isn't its line's last, all
-- but the last one, since the row's end is in the next row
abbrev pub reachable_text : List ℕ → Bool → List ℕ
reachable_text text is_last = if is_last then text else take (length text - 1) text

-- The greatest display column of a row at which a cursor can be: in the last row of a line the
-- row's width, otherwise where its last character begins, since the row's end is in the next row.
abbrev pub greatest_column : ℕ → VisualRow → ℕ
greatest_column tab_len row = if row.is_last then row_width tab_len row else column_at tab_len row.text (length row.text - 1)
