-- The columns of line numbers, and the width that remains for visual rows.
use Rattle.std.specs.Prelude.{ℕ, ◌+◌, ◌-◌, max, Bool, Option, None, Some, length, if◌then◌else◌}
use Rattle.std.specs.Fmt.{decimal}
use Rattle.textarea_wrap.specs.declared.wrap.WrapMode.{WrapMode}
use Rattle.textarea_wrap.specs.declared.wrap.WrapMode.TheVariants as mode

-- what contracts see of `LayoutMetrics`
pub record LayoutView : Type 0 where
  pub line_number_width : ℕ
  pub wrap_width : Option ℕ

-- the digits of the number of lines and a column on each side; none without line numbers
abbrev pub line_number_columns : Bool → ℕ → ℕ
line_number_columns line_numbers line_count = if line_numbers then length (decimal line_count) + 2 else 0

-- The width that the line numbers leave, less one column for a caret after a full row; at least 1.
-- Without wrapping there is none. `-` stops at 0.
abbrev pub columns_for_rows : WrapMode → ℕ → ℕ → Option ℕ
columns_for_rows mode.None inner_width number_columns = None
columns_for_rows mode.Word inner_width number_columns = Some (max (inner_width - number_columns - 1) 1)
columns_for_rows mode.Glyph inner_width number_columns = Some (max (inner_width - number_columns - 1) 1)
columns_for_rows mode.WordOrGlyph inner_width number_columns = Some (max (inner_width - number_columns - 1) 1)
