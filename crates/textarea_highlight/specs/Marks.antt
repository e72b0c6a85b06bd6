-- Known positions of a row.
use Rattle.std.specs.Prelude.{◌≡◌, ℕ, ◌*◌, ◌≤◌, List, length, take}
use Rattle.std.specs.Str.{chars}
use Rattle.textarea_wrap.specs.Columns.{display_end_column}
use Rattle.textarea_highlight.specs.Highlights.{byte_of}
use Rattle.textarea_highlight.specs.declared.highlight.marks.RowMark.{RowMark}

-- the mark's offset is that of its character
pub record IsOffsetMark (row : List ℕ) (mark : RowMark) : Type 0 where
  pub within : mark.characters ≤ length (chars row)
  pub offset_is : mark.offset ≡ byte_of row mark.characters

-- the mark's offset and column are those of its character, and a byte takes at most 255 columns
pub record IsRowMark (row : List ℕ) (tab_len : ℕ) (mark : RowMark) : Type 0 where
  pub at : IsOffsetMark row mark
  pub column_is : mark.column ≡ display_end_column tab_len 0 (take mark.characters (chars row))
  pub near : mark.column ≤ 255 * mark.offset
