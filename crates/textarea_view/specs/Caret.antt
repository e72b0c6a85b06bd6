-- The cell of the caret, the cursor on the screen, and the visual position that a cell shows.
-- Numbers are natural numbers: sums don't overflow, and `-` stops at 0.
use Rattle.std.specs.Prelude.{ℕ, ◌+◌, ◌-◌, min, ◌&&◌, nat_le, nat_lt, Option, None, Some, if◌then◌else◌}
use Rattle.std.specs.Option.{option_map, option_and_then}
use Rattle.textarea_screen.specs.Rect.{contains}
use Rattle.textarea_screen.specs.declared.screen.rect.Rect.{Rect}
use Rattle.textarea_view.specs.Viewport.{ViewportState}
use Rattle.textarea_view.specs.declared.row_view.RowView.{RowView}

-- a row at the left of an area, scrolled by the viewport's first column
abbrev pub left_view : ViewportState → Rect → ℕ → RowView
left_view viewport area line_number_width = record {
  inner_area = area;
  top_row = viewport.row;
  left_column = viewport.column;
  offset = 0;
  line_number_width = line_number_width;
}

-- a row that begins at an offset and isn't scrolled
abbrev pub offset_view : ViewportState → Rect → ℕ → ℕ → RowView
offset_view viewport area offset line_number_width =
    record (left_view viewport area line_number_width) { left_column = 0; offset = offset }

-- the cell of a row or column `at`, in an area that begins at the cell `start` and shows `len` of
-- them from `first` on, if it is one of these
abbrev pub cell_of : ℕ → ℕ → ℕ → ℕ → Option ℕ
cell_of start len first at =
    if nat_le first at && nat_lt (at - first) len then Some (start + (at - first)) else None

-- the caret's column: the text begins after offset and line number, scrolled by the first column
abbrev pub caret_x : RowView → ℕ → Option ℕ
caret_x view column = cell_of view.inner_area.x view.inner_area.width view.left_column
    (view.offset + column + view.line_number_width)

-- the caret's row
abbrev pub caret_y : RowView → ℕ → Option ℕ
caret_y view row = cell_of view.inner_area.y view.inner_area.height view.top_row row

-- the caret's cell, if its row and its column are both in the area
abbrev pub caret_at : RowView → ℕ → ℕ → Option (ℕ × ℕ)
caret_at view row column = option_and_then (λ x. option_map (λ y. (x, y)) (caret_y view row)) (caret_x view column)

-- the visual row that the cell at (x, y) shows, at most the text's last; none outside of the area
abbrev pub hit_row : ℕ → Rect → ℕ → ℕ → ℕ → Option ℕ
hit_row top_row area last_row x y =
    if contains area x y then Some (min (top_row + (y - area.y)) last_row) else None

-- the display column that a cell in column x shows, at most the row's greatest cursor column
abbrev pub hit_column : RowView → ℕ → ℕ → ℕ
hit_column view greatest_column x =
    min (((x - view.inner_area.x) - view.offset + view.left_column) - view.line_number_width) greatest_column
