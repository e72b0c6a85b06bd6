-- The cells of a rectangle.
use Rattle.std.specs.Prelude.{ℕ, ◌+◌, Bool, ◌&&◌, ◌==◌, nat_lt, nat_le}
use Rattle.textarea_screen.specs.declared.screen.rect.Rect.{Rect}

-- whether the cell in column x and row y is in the rectangle
abbrev pub contains : Rect → ℕ → ℕ → Bool
contains area x y =
    nat_le area.x x && nat_lt x (area.x + area.width) && nat_le area.y y && nat_lt y (area.y + area.height)

-- whether it is also in this row
abbrev pub is_in_row : Rect → ℕ → ℕ → ℕ → Bool
is_in_row area row x y = (y == row) && contains area x y
