-- The cells of a buffer as a terminal can show them.
use Rattle.std.specs.Prelude.{ℕ, zero, suc, ◌+◌, ◌-◌, ◌*◌, ◌/◌, ◌%◌, true, false, Bool, ◌&&◌, ◌==◌, nat_lt, nat_le, List, [], ◌∷◌, length, chars, unwrap_or, if◌then◌else◌}
use Rattle.std.specs.Int.RustNames.{bit_and}
use Rattle.textarea_paint.specs.Columns.{columns_of}
use Rattle.textarea_screen.specs.Buffer.{cell_at}
use Rattle.textarea_screen.specs.Cell.{CellView, fresh_cell}
use Rattle.textarea_screen.specs.declared.screen.buffer.Buffer.{Buffer}
use Rattle.textarea_screen.specs.declared.screen.color.Color.{Color}
use Rattle.textarea_screen.specs.declared.screen.color.Color.TheVariants.{Reset}
use Rattle.textarea_screen.specs.declared.screen.rect.Rect.{Rect}
use Rattle.textarea_terminal.specs.Disputed.{can_widen, before_selector}
use Rattle.textarea_terminal.specs.PaintColors.{shown_color}
use Rattle.textarea_terminal.specs.Pen.{look_of, in_look}
use Rattle.textarea_terminal.specs.declared.output.colors.Colors.{Colors}
use Rattle.textarea_terminal.specs.declared.output.look.Pen.{Pen}
use Rattle.unicode_segmentation.specs.Grapheme.{graphemes}

-- the columns of a text that is one grapheme cluster; 0 for other texts, and for clusters that
-- can't be shown
unfoldable pub cluster_columns : List ℕ → ℕ
cluster_columns text = if length (graphemes true text) == 1 then columns_of text else 0

-- the part of a cluster, if it is a cluster of at most as many columns, or else a blank
abbrev pub part_or_blank : List ℕ → List ℕ → List ℕ
part_or_blank part whole = if nat_lt 0 (cluster_columns part) && nat_le (cluster_columns part) (cluster_columns whole) then part else 32 ∷ []

-- the longest first part of a cluster that no terminal shows in more columns than we count
unfoldable pub shown_text : List ℕ → List ℕ
shown_text text = if can_widen text then part_or_blank (before_selector (chars text)) text else text

-- a cell that is covered by a cluster in a cell before it, which has the look of both
abbrev pub half : CellView
half = record { symbol = []; fg = Reset; bg = Reset; modifier = record { 0 = 0 } }

abbrev pub is_half : CellView → Bool
is_half cell = length cell.symbol == 0

-- of bold and dim, bits 0 and 1, a terminal may have only one: bold is shown
abbrev pub one_intensity : ℕ → ℕ
one_intensity bits = if bit_and bits 3 == 3 then bits - 2 else bits

-- the look as a terminal with these colours shows it, which has nine modifiers
abbrev pub shown_look : Colors → Pen → Pen
shown_look colors look = record {
  fg = shown_color colors look.fg;
  bg = shown_color colors look.bg;
  modifier = record { 0 = one_intensity (bit_and look.modifier.0 511) };
}

abbrev pub displayed_alike : Colors → CellView → CellView
displayed_alike colors cell = in_look (shown_look colors (look_of cell)) (shown_text cell.symbol)

-- the cell with a blank instead of its text
abbrev pub blanked : Colors → CellView → CellView
blanked colors cell = in_look (shown_look colors (look_of cell)) (32 ∷ [])

-- the texts of the first `count` cells are empty
abbrev pub begins_empty : ℕ → List CellView → Bool
begins_empty zero cells = true
begins_empty (suc count) [] = false
begins_empty (suc count) (cell ∷ cells) = is_half cell && begins_empty count cells

-- a terminal of this number of columns can show the text of the cell at this index, before these
-- cells: the text is a cluster that ends in its row, and the texts of the cells that it covers are
-- empty
abbrev pub fits_in_row : ℕ → ℕ → CellView → List CellView → Bool
fits_in_row columns index cell cells =
    nat_lt 0 (cluster_columns cell.symbol)
    && nat_le (index % columns + cluster_columns cell.symbol) columns && begins_empty (cluster_columns cell.symbol - 1) cells

-- cells, row after row, as a terminal with these colours shows them, from left to right: the next
-- `halves` of them belong to a cluster that began before them
abbrev pub displayed : Colors → ℕ → ℕ → ℕ → List CellView → List CellView
displayed colors columns index halves [] = []
displayed colors columns index (suc halves) (cell ∷ cells) = half ∷ displayed colors columns (index + 1) halves cells
displayed colors columns index zero (cell ∷ cells) =
    if fits_in_row columns index cell cells
    then displayed_alike colors cell ∷ displayed colors columns (index + 1) (cluster_columns (shown_text cell.symbol) - 1) cells
    else blanked colors cell ∷ displayed colors columns (index + 1) 0 cells

-- the buffer's cell at an index in an area, counted row after row; a fresh one if the buffer has
-- none
abbrev pub cell_in : Rect → Buffer → ℕ → CellView
cell_in area buffer index = unwrap_or (cell_at buffer (area.x + index % area.width) (area.y + index / area.width)) fresh_cell

-- a number of cells from an index on
abbrev pub cells_at : Rect → Buffer → ℕ → ℕ → List CellView
cells_at area buffer index zero = []
cells_at area buffer index (suc count) = cell_in area buffer index ∷ cells_at area buffer (index + 1) count

-- the cells that a terminal of these colours and this area shows of a buffer
abbrev pub frame_of_buffer : Colors → Rect → Buffer → List CellView
frame_of_buffer colors area buffer = displayed colors area.width 0 0 (cells_at area buffer 0 (area.height * area.width))

-- the color is the terminal's own
abbrev pub is_own : Color → Bool
is_own Reset = true
is_own color = false

-- the cell is `half`
abbrev pub is_plain_half : CellView → Bool
is_plain_half cell = is_half cell && is_own cell.fg && is_own cell.bg && (cell.modifier.0 == 0)

-- a terminal of this number of columns can show the cluster that begins in this cell: it ends in
-- its row
abbrev pub can_begin : ℕ → ℕ → CellView → Bool
can_begin columns index cell =
    nat_lt 0 (cluster_columns cell.symbol) && nat_le (index % columns + cluster_columns cell.symbol) columns && nat_lt cell.modifier.0 512

-- the cells are those of clusters that a terminal of this number of columns can show, each whole in
-- its row; the first `halves` of them belong to a cluster that began before them
abbrev pub are_whole : ℕ → ℕ → ℕ → List CellView → Bool
are_whole columns index halves [] = halves == 0
are_whole columns index (suc halves) (cell ∷ cells) = is_plain_half cell && are_whole columns (index + 1) halves cells
are_whole columns index zero (cell ∷ cells) =
    can_begin columns index cell && are_whole columns (index + 1) (cluster_columns cell.symbol - 1) cells
