-- The cells that C gets.
use Rattle.std.specs.Prelude.{ℕ, zero, suc, ◌+◌, Some, List, [], ◌∷◌, ◌++◌, length, min, replicate, unwrap_or}
use Rattle.textarea_screen.specs.Buffer.{area_of, cell_at}
use Rattle.textarea_screen.specs.Cell.{CellView, cell_view, fresh_cell}
use Rattle.textarea_screen.specs.declared.screen.buffer.Buffer.{Buffer}
use Rattle.textarea_screen.specs.declared.screen.cell.Cell.{Cell as ScreenCell}
use Rattle.textarea_c_data.specs.declared.cell.CCell.{CCell}
use Rattle.textarea_c_data.specs.Styles.{plain_color}
use Rattle.textarea_c_data.specs.Copied.{copied_over}

-- a cell as C gets it: its colours, its modifiers, the length of its text, and the first bytes of it
abbrev pub plain_cell : CellView → CCell
plain_cell cell = record {
  fg = plain_color (Some cell.fg);
  bg = plain_color (Some cell.bg);
  modifier = cell.modifier.0;
  bytes = min (length cell.symbol) 65535;
  symbol = copied_over (replicate 24 0) cell.symbol;
}

abbrev pub plain_screen_cell : ScreenCell → CCell
plain_screen_cell cell = plain_cell (cell_view cell)

-- this many cells of a row of the screen, from a column on
abbrev pub row_for_c : Buffer → ℕ → ℕ → ℕ → List CCell
row_for_c screen y x zero = []
row_for_c screen y x (suc count) = plain_cell (unwrap_or (cell_at screen x y) fresh_cell) ∷ row_for_c screen y (x + 1) count

-- all cells of this many rows of the screen, from a row on
abbrev pub plain_rows : Buffer → ℕ → ℕ → List CCell
plain_rows screen y zero = []
plain_rows screen y (suc count) = row_for_c screen y (area_of screen).x (area_of screen).width ++ plain_rows screen (y + 1) count

-- all cells of the screen, row after row
abbrev pub plain_cells : Buffer → List CCell
plain_cells screen = plain_rows screen (area_of screen).y (area_of screen).height
