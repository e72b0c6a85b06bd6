-- The visual rows of a text, which contracts see only through its layout.
use Rattle.std.specs.Prelude.{◌≡◌, ℕ, ◌+◌, ◌<◌, ◌≤◌, true, List, Option, MatchOption, String, [], ◌∷◌, encode_utf8_all, get_or, length, take, drop}
use Rattle.std.specs.Str.{all_scalars}
use Rattle.textarea_util.specs.Limit.{size_limit}
use Rattle.textarea_text.specs.Place.{Place}
use Rattle.textarea_util.specs.Replaced.{replaced}
use Rattle.textarea_text.specs.Text.{lines, lines_of}
use Rattle.textarea_wrap.specs.Marks.{marks_of}
use Rattle.textarea_wrap.specs.RowsView.{RowsView}
use Rattle.textarea_wrap.specs.WrapResult.{IsWrapped}
use Rattle.textarea_wrap.specs.declared.wrap.WrapMode.TheVariants as mode
use Rattle.textarea_screen_map.specs.LineRows.{AreRowsOf, ticks_of}
use Rattle.textarea_blocks.specs.Sums.{ranges_at, row_total, size_total}
use Rattle.textarea_screen_map.specs.Map.{IsRowCount}
use Rattle.textarea_screen_map.specs.VisualPositions.{IsAbove, IsBelow, IsInFirstRow, IsInLastRow}
use Rattle.textarea_lines.specs.TextLayout.{TextAndLayout, wrapping_at, wrapping_of}

-- these are the right rows of the current text, with the ticks of its layout
pub record HasLayout (text : TextAndLayout) (rows : List RowsView) : Type 0 where
  pub text_layout : AreRowsOf (wrapping_of text) (lines text.text) rows
  pub ticks : ticks_of rows ≡ text.layout.ticks

-- a fact about the text's rows
abbrev pub OfRows : TextAndLayout → (List RowsView → Type 0) → Type 0
OfRows text_layout Fact = (rows : List RowsView) × HasLayout text_layout rows × Fact rows

-- where a cursor moves one visual row up from a position; none from the first visual row
abbrev pub IsFoundAbove : TextAndLayout → Place → Option Place → Type 0
IsFoundAbove text_layout place found = OfRows text_layout (λ rows. MatchOption found
    (IsInFirstRow text_layout.layout.settings.tab_len (lines text_layout.text) rows place)
    (IsAbove text_layout.layout.settings.tab_len (lines text_layout.text) rows place))

-- where it moves one visual row down; none from the last visual row
abbrev pub IsFoundBelow : TextAndLayout → Place → Option Place → Type 0
IsFoundBelow text_layout place found = OfRows text_layout (λ rows. MatchOption found
    (IsInLastRow text_layout.layout.settings.tab_len (lines text_layout.text) rows place)
    (IsBelow text_layout.layout.settings.tab_len (lines text_layout.text) rows place))

-- the number of visual rows of the text when it is wrapped in an inner area of this width
abbrev pub IsRowCountAt : TextAndLayout → ℕ → ℕ → Type 0
IsRowCountAt text_layout inner_width count = IsRowCount (wrapping_at text_layout inner_width) (lines text_layout.text) count

-- the bytes of a line, plus one for the line itself
abbrev pub line_size : List ℕ → ℕ
line_size line = length (encode_utf8_all line) + 1

-- What a line needs so that it can be wrapped without a width, and its one row can replace the one
-- that it had: all lines then have this size, which is within the limit.
pub record CanStayWhole {Z : Type 0} (lines : List (String Z)) (rows : List RowsView) (row size : ℕ) : Type 0 where
  pub within : row < length lines
  pub same : length rows ≡ length lines
  pub one : length (ranges_at rows row) ≡ 1
  pub few : row_total rows ≤ size_limit
  pub size_is : size_total (take row rows) + line_size (get_or (lines_of lines) row []) + size_total (drop (row + 1) rows) ≡ size
  pub limit : size ≤ size_limit

-- The line `row`, given by its characters, which are Unicode scalar values, is shorter than 2^48
-- bytes and has one new row with this tick. All other lines keep their rows.
pub record HasWholeLine (tab_len : ℕ) (line : List ℕ) (row tick : ℕ) (old new : List RowsView) : Type 0 where
  pub wrapped : RowsView
  pub new_is : new ≡ replaced old row 1 (wrapped ∷ [])
  pub tick_is : wrapped.tick ≡ tick
  pub characters : all_scalars line ≡ true
  pub short : length (encode_utf8_all line) < size_limit
  pub right : IsWrapped mode.None tab_len 1 (encode_utf8_all line) wrapped.ranges
  pub marked : wrapped.marks ≡ marks_of (encode_utf8_all line) wrapped.ranges
