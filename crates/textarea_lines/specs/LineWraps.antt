-- The lines that are wrapped when a splice, another width or other settings change a text with its
-- layout: how much the count increases, and which rows are unchanged.
use Rattle.std.specs.Prelude.{◌≡◌, ◌≢◌, ℕ, ◌+◌, ◌==◌, ◌<◌, Option, None, List, [], ◌∷◌, length, take, drop, true, false, if◌then◌else◌}
use Rattle.std.specs.List.{AllByRecursion}
use Rattle.textarea_text.specs.Splice.{Splice, applied}
use Rattle.textarea_text.specs.Text.{lines}
use Rattle.textarea_text.specs.Touched.{new_line_count, replaced_line_count}
use Rattle.textarea_wrap.specs.Metrics.{columns_for_rows, line_number_columns}
use Rattle.textarea_wrap.specs.RowsView.{RowsView}
use Rattle.textarea_screen_map.specs.LineRows.{ticks_after, ticks_of}
use Rattle.textarea_lines.specs.declared.settings.LayoutSettings.{LayoutSettings}
use Rattle.textarea_lines.specs.TextLayout.{TextAndLayout, keeps_wrapping}
use Rattle.textarea_lines.specs.TextRows.{HasLayout}

-- ---- the width of the map

-- The width in columns at which a text of `line_count` lines is wrapped: the columns beside line
-- numbers, or none in an inner area without a column and in the mode `None`.
abbrev pub width_for : LayoutSettings → ℕ → Option ℕ
width_for settings line_count =
    if settings.inner_width == 0 then None
    else columns_for_rows settings.mode settings.inner_width (line_number_columns settings.line_numbers line_count)

abbrev pub map_width : TextAndLayout → Option ℕ
map_width text_layout = width_for text_layout.layout.settings (length (lines text_layout.text))

-- ---- no line, all lines, or those that a splice touches

-- no line is wrapped: count and ticks are unchanged
pub record WrapsNoLine (old new : TextAndLayout) : Type 0 where
  pub count : new.layout.count ≡ old.layout.count
  pub ticks : new.layout.ticks ≡ old.layout.ticks

-- each line is wrapped once and has the next tick, in order; the count increases by their number
pub record WrapsAllLines (old new : TextAndLayout) : Type 0 where
  pub count : new.layout.count ≡ old.layout.count + length (lines new.text)
  pub ticks : new.layout.ticks ≡ ticks_after old.layout.count (length (lines new.text))

-- the rows, after a splice, of the lines that it touched
abbrev pub touched_rows : Splice → List RowsView → List RowsView
touched_rows splice rows = take (new_line_count splice) (drop splice.place.0 rows)

-- All rows before and after a splice, where `count` is the counter's number before it. The lines
-- above and below those that it touches keep their rows, ticks included. Those that it touches have
-- the next ticks, so all of these are above `count`.
pub record KeepsOtherRows (count : ℕ) (splice : Splice) (before after : List RowsView) : Type 0 where
  pub above : take splice.place.0 after ≡ take splice.place.0 before
  pub below : drop (splice.place.0 + new_line_count splice) after ≡ drop (splice.place.0 + replaced_line_count splice) before
  pub touched : ticks_of (touched_rows splice after) ≡ ticks_after count (new_line_count splice)
  pub newer : AllByRecursion (λ (rows : RowsView). count < rows.tick) (touched_rows splice after)

-- Only the lines that the splice touches are wrapped, each once. The count increases by the breaks
-- plus one of a splice that inserts, or by one for a removal. Other lines keep their rows.
pub record WrapsTouchedLines (old : TextAndLayout) (splice : Splice) (new : TextAndLayout) : Type 0 where
  pub count : new.layout.count ≡ old.layout.count + new_line_count splice
  pub rows : (before after : List RowsView) → HasLayout old before → HasLayout new after → KeepsOtherRows old.layout.count splice before after

-- ---- changes of a text with its layout

-- What a splice wraps: the lines that it touches, or all lines if it changes the width of the map.
pub record WrapsForSplice (old : TextAndLayout) (splice : Splice) (new : TextAndLayout) : Type 0 where
  pub text : new.text ≡ applied old.text splice
  pub settings : new.layout.settings ≡ old.layout.settings
  pub same_width : map_width new ≡ map_width old → WrapsTouchedLines old splice new
  pub other_width : map_width new ≢ map_width old → WrapsAllLines old new

-- successive splices
abbrev pub WrapsForSplices : TextAndLayout → List Splice → TextAndLayout → Type 0
WrapsForSplices old [] new = new ≡ old
WrapsForSplices old (splice ∷ splices) new = (between : TextAndLayout) × WrapsForSplice old splice between × WrapsForSplices between splices new

-- another inner width wraps all lines if it changes the width of the map, and else none
pub record WrapsForWidth (old new : TextAndLayout) : Type 0 where
  pub text : new.text ≡ old.text
  pub same_width : map_width new ≡ map_width old → WrapsNoLine old new
  pub other_width : map_width new ≢ map_width old → WrapsAllLines old new

-- other settings wrap all lines if they change how lines are wrapped, and else none
pub record WrapsForSettings (old : TextAndLayout) (settings : LayoutSettings) (new : TextAndLayout) : Type 0 where
  pub text : new.text ≡ old.text
  pub same_way : keeps_wrapping old settings ≡ true → WrapsNoLine old new
  pub other_way : keeps_wrapping old settings ≡ false → WrapsAllLines old new
