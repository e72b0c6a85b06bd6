-- How a text of a number of lines is wrapped.
use Rattle.std.specs.Prelude.{ℕ, ◌==◌, ◌&&◌, ◌||◌, Bool, true, false, not, unwrap_or, if◌then◌else◌}
use Rattle.textarea_wrap.specs.declared.wrap.WrapMode.{WrapMode}
use Rattle.textarea_wrap.specs.declared.wrap.WrapMode.TheVariants as mode
use Rattle.textarea_wrap.specs.Metrics.{columns_for_rows, line_number_columns}
use Rattle.textarea_screen_map.specs.declared.layout.Wrapping.{Wrapping}
use Rattle.textarea_lines.specs.declared.settings.LayoutSettings.{LayoutSettings}

-- whether a mode wraps: each but `None`
abbrev pub wraps : WrapMode → Bool
wraps mode.None = false
wraps mode.Word = true
wraps mode.Glyph = true
wraps mode.WordOrGlyph = true

-- lines are wrapped where the mode wraps and the inner area has a column
abbrev pub is_wrapped : LayoutSettings → Bool
is_wrapped settings = not (settings.inner_width == 0) && wraps settings.mode

-- Each line is one row. The width is ignored; it is 1 for every number of lines.
abbrev pub whole_lines : LayoutSettings → Wrapping
whole_lines settings = record { mode = mode.None; width = 1; tab_len = settings.tab_len }

-- Rows in an inner area of this many columns: at the width beside line numbers of `line_count`
-- lines, and at 1 if none remains. In the mode `None` each line is one row, at width 1.
abbrev pub wrapped_at_width : LayoutSettings → ℕ → ℕ → Wrapping
wrapped_at_width settings inner_width line_count = record {
  mode = settings.mode;
  width = unwrap_or (columns_for_rows settings.mode inner_width (line_number_columns settings.line_numbers line_count)) 1;
  tab_len = settings.tab_len;
}

-- how a text of `line_count` lines is wrapped
abbrev pub wrapping_for : LayoutSettings → ℕ → Wrapping
wrapping_for settings line_count = if is_wrapped settings then wrapped_at_width settings settings.inner_width line_count else whole_lines settings

abbrev pub is_same_mode : WrapMode → WrapMode → Bool
is_same_mode mode.None mode.None = true
is_same_mode mode.Word mode.Word = true
is_same_mode mode.Glyph mode.Glyph = true
is_same_mode mode.WordOrGlyph mode.WordOrGlyph = true
is_same_mode one other = false

-- lines are wrapped in one way: in the same mode and, if it wraps, at the same width and tab stops
abbrev pub is_same_wrapping : Wrapping → Wrapping → Bool
is_same_wrapping one other = is_same_mode one.mode other.mode && (not (wraps one.mode) || ((one.width == other.width) && (one.tab_len == other.tab_len)))
