-- A cell as contracts see it, and a style that is applied to it.
use Rattle.std.specs.Prelude.{ℕ, List, [], ◌∷◌, Some, string_bytes, unwrap_or}
use Rattle.textarea_screen.specs.Modifier.{union_of, difference_of}
use Rattle.textarea_screen.specs.declared.screen.cell.Cell.{Cell}
use Rattle.textarea_screen.specs.declared.screen.cell.CellText.{CellText}
use Rattle.textarea_screen.specs.declared.screen.cell.CellText.TheVariants.{Inline, Owned}
use Rattle.textarea_screen.specs.declared.screen.color.Color.{Color}
use Rattle.textarea_screen.specs.declared.screen.color.Color.TheVariants.{Reset}
use Rattle.textarea_screen.specs.declared.screen.modifier.Modifier.{Modifier}
use Rattle.textarea_screen.specs.declared.screen.style.Style.{Style}

-- a cell: the bytes of its text, its colours and its modifiers
pub record CellView : Type 0 where
  pub symbol : List ℕ
  pub fg : Color
  pub bg : Color
  pub modifier : Modifier

-- the bytes of a cell's text, stored in the cell or not
abbrev pub cell_text : CellText → List ℕ
cell_text (Inline text) = text.bytes
cell_text (Owned text) = string_bytes text

abbrev pub cell_view : Cell → CellView
cell_view cell = record { symbol = cell_text cell.text; fg = cell.fg; bg = cell.bg; modifier = cell.modifier }

-- a fresh cell: a blank in the terminal's own colours
abbrev pub fresh_cell : CellView
fresh_cell = record { symbol = 32 ∷ []; fg = Reset; bg = Reset; modifier = record { 0 = 0 } }

-- the cell with a style applied: colours that are set, then modifiers added, then removed
abbrev pub styled : Style → CellView → CellView
styled style cell = record cell {
  fg = unwrap_or style.fg cell.fg;
  bg = unwrap_or style.bg cell.bg;
  modifier = difference_of (union_of cell.modifier style.add_modifier) style.sub_modifier;
}

-- the cell with a style applied and another text
abbrev pub with_symbol : List ℕ → Style → CellView → CellView
with_symbol text style cell = record (styled style cell) { symbol = text }

-- the style that sets the cell's colours and adds its modifiers
abbrev pub style_of : CellView → Style
style_of cell = record { fg = Some cell.fg; bg = Some cell.bg; add_modifier = cell.modifier; sub_modifier = record { 0 = 0 } }
