-- The columns that a grapheme cluster takes.
use Rattle.std.specs.Prelude.{ℕ, false, List, chars, sum_by, unwrap_or, if◌then◌else◌}
use Rattle.std.specs.Char.{is_control}
use Rattle.std.specs.List.{list_any}
use Rattle.unicode_width.specs.Width.{char_width}

-- the columns of a character, 0 if `unicode_width` gives it no width
abbrev pub char_columns : ℕ → ℕ
char_columns c = unwrap_or (char_width false c) 0

-- the columns of a cluster's bytes: the sum of its characters', or 0 with a control character
unfoldable pub columns_of : List ℕ → ℕ
columns_of text = if list_any is_control (chars text) then 0 else sum_by char_columns (chars text)
