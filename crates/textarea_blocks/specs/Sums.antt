-- The number of visual rows of lines, and the size of the lines by their rows.
use Rattle.std.specs.Prelude.{ℕ, ◌+◌, ◌-◌, ◌≤◌, List, [], ◌∷◌, map, length, get_or}
use Rattle.textarea_util.specs.Limit.{size_limit}
use Rattle.textarea_wrap.specs.RowsView.{RowsView}

-- the number of visual rows of all these lines
abbrev pub row_total : List RowsView → ℕ
row_total [] = 0
row_total (rows ∷ rest) = length rows.ranges + row_total rest

-- the byte ranges of a line's rows; none if there is no such line
abbrev pub ranges_at : List RowsView → ℕ → List (ℕ × ℕ)
ranges_at rows line = get_or (map (λ (r : RowsView). r.ranges) rows) line []

-- the marks of a line's rows; none if there is no such line
abbrev pub marks_at : List RowsView → ℕ → List (ℕ × ℕ)
marks_at rows line = get_or (map (λ (r : RowsView). r.marks) rows) line []

-- the byte range of a row, given by its index in its line
abbrev pub range_at : List (ℕ × ℕ) → ℕ → ℕ × ℕ
range_at ranges row = get_or ranges row (0, 0)

-- the bytes of the line that has these rows: where its last row ends
abbrev pub line_bytes : List (ℕ × ℕ) → ℕ
line_bytes ranges = (range_at ranges (length ranges - 1)).1

-- the sum of the bytes and the number of the lines that have these rows
abbrev pub size_total : List RowsView → ℕ
size_total [] = 0
size_total (rows ∷ rest) = line_bytes rows.ranges + 1 + size_total rest

-- The lines are within the limit: at most 2^48 bytes and lines together, and at most 2^48 rows.
pub record IsWithinLimit (rows : List RowsView) : Type 0 where
  pub size : size_total rows ≤ size_limit
  pub few : row_total rows ≤ size_limit
