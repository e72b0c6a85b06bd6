-- The viewport after a text is drawn: it follows the cursor.
use Rattle.std.specs.Prelude.{ℕ, ◌+◌, ◌-◌, ◌*◌, nat_le, nat_lt, if◌then◌else◌}
use Rattle.textarea_screen.specs.declared.screen.rect.Rect.{Rect}
use Rattle.textarea_view.specs.Viewport.{ViewportState, saturated_usize}

-- The first of `len` rows or columns in view, once `at` must be in view: `at` if it is before the
-- first; the first that makes `at` the last if it is after the last; else unchanged. If `len` is 0,
-- nothing is in view, and the result is `at` if that is before the first, else `at + 1`.
abbrev pub first_visible : ℕ → ℕ → ℕ → ℕ
first_visible first len at =
    if nat_lt at first then at
    else if nat_le (first + len) at then saturated_usize (at + 1 - len)
    else first

-- The column that must be in view for a cursor at this display column, after a line number of this
-- width (0 for none): twice the column if it is at most that width, else the sum of the two.
abbrev pub column_to_show : ℕ → ℕ → ℕ
column_to_show line_number_width column =
    saturated_usize (if nat_le column line_number_width then 2 * column else column + line_number_width)

-- the viewport of an area from its text's first row and column on
abbrev pub at_start : Rect → ViewportState
at_start area = record { row = 0; column = 0; width = area.width; height = area.height }

-- the viewport after wrapped lines are drawn, with the cursor in this visual row
abbrev pub showing_row : ViewportState → Rect → ℕ → ViewportState
showing_row viewport area row = record (at_start area) { row = first_visible viewport.row area.height row }

-- the viewport after unwrapped lines are drawn, with the cursor at this visual position
abbrev pub showing_row_and_column : ViewportState → Rect → ℕ → ℕ → ℕ → ViewportState
showing_row_and_column viewport area row column line_number_width =
    record (showing_row viewport area row) {
      column = first_visible viewport.column area.width (column_to_show line_number_width column);
    }
