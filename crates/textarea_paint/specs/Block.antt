-- A block's effect on the cells of an area.
use Rattle.std.specs.Prelude.{ℕ, ◌+◌, ◌-◌, Bool, ◌&&◌, ◌==◌, List, [], ◌∷◌, ◌++◌, Option, None, Some, encode_utf8, if◌then◌else◌}
use Rattle.textarea_screen.specs.Block.{BlockView, has_border, left_side, top_side, right_side, bottom_side}
use Rattle.textarea_screen.specs.Buffer.{Change}
use Rattle.textarea_screen.specs.Cell.{styled, with_symbol}
use Rattle.textarea_screen.specs.Inset.{inset_of}
use Rattle.textarea_screen.specs.Rect.{contains}
use Rattle.textarea_screen.specs.Style.{empty_style}
use Rattle.textarea_screen.specs.Text.{LineView}
use Rattle.textarea_screen.specs.declared.screen.block.Borders.{Borders}
use Rattle.textarea_screen.specs.declared.screen.rect.Rect.{Rect}
use Rattle.textarea_screen.specs.declared.screen.style.Style.{Style}
use Rattle.textarea_paint.specs.Cells.{place_from, row_change}
use Rattle.textarea_paint.specs.Clusters.{row_clusters}
use Rattle.textarea_paint.specs.declared.paint.cells.RowCells.{RowCells}

-- ---- changes of an area

-- a change of only the area's cells
abbrev pub in_area : Rect → Change → Change
in_area area change x y cell = if contains area x y then change x y cell else cell

-- changes one after the other, each of the result of those before it
abbrev pub in_turn : List Change → Change
in_turn [] x y cell = cell
in_turn (change ∷ changes) x y cell = in_turn changes x y (change x y cell)

-- if it is drawn, a text in a style in each cell that passes the test
abbrev pub drawn_where : Bool → (ℕ → ℕ → Bool) → List ℕ → Style → Change
drawn_where is_drawn test text style x y cell = if is_drawn && test x y then with_symbol text style cell else cell

-- ---- the cells of the area at its four sides

abbrev pub on_left : Rect → ℕ → ℕ → Bool
on_left area x y = x == area.x

abbrev pub on_top : Rect → ℕ → ℕ → Bool
on_top area x y = y == area.y

abbrev pub on_right : Rect → ℕ → ℕ → Bool
on_right area x y = x == area.x + area.width - 1

abbrev pub on_bottom : Rect → ℕ → ℕ → Bool
on_bottom area x y = y == area.y + area.height - 1

-- the cells that are on both sides
abbrev pub on_both : (ℕ → ℕ → Bool) → (ℕ → ℕ → Bool) → ℕ → ℕ → Bool
on_both side other x y = side x y && other x y

-- ---- the drawing

-- the borders of the sides, in this order: left, top, right, bottom
abbrev pub side_changes : Borders → Style → Rect → List Change
side_changes borders style area =
    drawn_where (has_border borders left_side) (on_left area) (encode_utf8 0x2502) style
    ∷ drawn_where (has_border borders top_side) (on_top area) (encode_utf8 0x2500) style
    ∷ drawn_where (has_border borders right_side) (on_right area) (encode_utf8 0x2502) style
    ∷ drawn_where (has_border borders bottom_side) (on_bottom area) (encode_utf8 0x2500) style ∷ []

-- the corners of two drawn sides, in this order: bottom right, top right, bottom left, top left
abbrev pub corner_changes : Borders → Style → Rect → List Change
corner_changes borders style area =
    drawn_where (has_border borders right_side && has_border borders bottom_side) (on_both (on_right area) (on_bottom area)) (encode_utf8 0x2518) style
    ∷ drawn_where (has_border borders right_side && has_border borders top_side) (on_both (on_right area) (on_top area)) (encode_utf8 0x2510) style
    ∷ drawn_where (has_border borders left_side && has_border borders bottom_side) (on_both (on_left area) (on_bottom area)) (encode_utf8 0x2514) style
    ∷ drawn_where (has_border borders left_side && has_border borders top_side) (on_both (on_left area) (on_top area)) (encode_utf8 0x250C) style ∷ []

-- the cells of the top row between the left and the right border, where these are drawn
abbrev pub title_cells : Borders → Rect → RowCells
title_cells borders area = record {
  x = area.x + inset_of (has_border borders left_side) 0;
  y = area.y;
  width = area.width - inset_of (has_border borders left_side) 0 - inset_of (has_border borders right_side) 0;
}

-- the title from its first column on, with no style under its own
abbrev pub title_row : Option LineView → RowCells → Change
title_row None cells x y cell = cell
title_row (Some title) cells x y cell = row_change cells 0 (place_from 0 (row_clusters empty_style title)) x y cell

abbrev pub title_change : BlockView → Rect → Change
title_change block area = title_row block.title (title_cells block.borders area)

-- the block's style, then its borders, its corners and its title
abbrev pub block_changes : BlockView → Rect → List Change
block_changes block area =
    (λ x y cell. styled block.style cell)
    ∷ side_changes block.borders block.border_style area ++ corner_changes block.borders block.border_style area ++ title_change block area ∷ []

-- a cell after a block is drawn over an area; a cell outside of the area is unchanged
unfoldable pub block_cell : BlockView → Rect → Change
block_cell block area = in_area area (in_turn (block_changes block area))
