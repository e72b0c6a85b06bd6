-- The columns of offsets in a row.
use Rattle.std.specs.Prelude.{◌≡◌, ℕ, ◌*◌, ◌≤◌, List, take, chars, IsCharBoundary}
use Rattle.textarea_wrap.specs.Columns.{end_column}
use Rattle.textarea_highlight.specs.declared.highlight.display.Display.{Display}

-- the column at which the byte at an offset is
abbrev pub column_of : List ℕ → ℕ → ℕ → ℕ
column_of row tab_len offset = end_column tab_len 0 (chars (take offset row))

-- the column of an offset at or before this one is known
pub record IsColumnKnown (row : List ℕ) (display : Display) (offset : ℕ) : Type 0 where
  pub order : display.at ≤ offset
  pub boundary : IsCharBoundary row display.at
  pub column : display.column ≡ column_of row display.tab_len display.at
  pub near : display.column ≤ 255 * display.at
