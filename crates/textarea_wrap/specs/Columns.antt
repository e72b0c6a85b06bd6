-- The columns that characters take. Columns count from 0 at the start of a visual row.
use Rattle.std.specs.Prelude.{ℕ, ◌+◌, ◌-◌, ◌%◌, ◌<◌, ◌≤◌, ◌==◌, max, false, List, [], ◌∷◌, get_or, length, take, unwrap_or, chars, if◌then◌else◌}
use Rattle.std.specs.List.{AllByRecursion, flat_map}
use Rattle.unicode_width.specs.Width.{char_width}

-- the columns of a character other than a tab, 0 where `unicode_width` gives none
abbrev pub plain_width : ℕ → ℕ
plain_width c = unwrap_or (char_width false c) 0

-- a character of visible ASCII, the space among them
abbrev pub IsVisible : ℕ → Type 0
IsVisible c = (32 ≤ c) × (c < 127)

-- the text begins with this many such characters, of at most `most` that are looked for
pub record IsVisibleCount (text : List ℕ) (most count : ℕ) : Type 0 where
  pub within : count ≤ length text
  pub at_most : count ≤ most
  pub visible : AllByRecursion IsVisible (take count text)
  pub end : count < length text → count < most → ¬ IsVisible (get_or text count 0)

-- the next multiple of the tab length above the column; with tab length 0 the column itself
abbrev pub next_stop : ℕ → ℕ → ℕ
next_stop tab_len column = if tab_len == 0 then column else column + (tab_len - column % tab_len)

-- the column after a character that begins at the column; 9 is the tab
abbrev pub column_after : ℕ → ℕ → ℕ → ℕ
column_after tab_len column c = if c == 9 then next_stop tab_len column else column + plain_width c

-- the column after characters of which the first begins at the column
abbrev pub end_column : ℕ → ℕ → List ℕ → ℕ
end_column tab_len column [] = column
end_column tab_len column (c ∷ cs) = end_column tab_len (column_after tab_len column c) cs

-- the width of segments of a text, each given by its bytes, that are together at the start of a row
abbrev pub stretch_width : ℕ → List (List ℕ) → ℕ
stretch_width tab_len word_segments = end_column tab_len 0 (flat_map chars word_segments)

-- ---- display columns

-- The display column after a character. A cursor can be before and after each tab, so a tab takes
-- one column where there are no tab stops, as it would if each column were a tab stop.
abbrev pub display_column_after : ℕ → ℕ → ℕ → ℕ
display_column_after tab_len column c = column_after (max tab_len 1) column c

-- the display column after characters of which the first begins at the column
abbrev pub display_end_column : ℕ → ℕ → List ℕ → ℕ
display_end_column tab_len column cs = end_column (max tab_len 1) column cs
