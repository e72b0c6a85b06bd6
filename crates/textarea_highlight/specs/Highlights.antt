-- The content of a highlighter, and what each call adds.
use Rattle.std.specs.Prelude.{◌≡◌, ℕ, ◌+◌, ◌≤◌, ◌⊎◌, Bool, false, ◌&&◌, ◌||◌, ◌==◌, nat_le, nat_lt, if◌then◌else◌, List, [], ◌∷◌, ◌++◌, length, take, Option, None, Some, encode_utf8_all, codes}
use Rattle.std.specs.Str.{chars}
use Rattle.textarea_screen.specs.declared.screen.style.Style.{Style}
use Rattle.textarea_screen.specs.Style.{empty_style}
use Rattle.textarea_screen.specs.Text.{SpanView}
use Rattle.textarea_screen.specs.Text.ContentView.{BorrowedBytes}
use Rattle.textarea_highlight.specs.declared.highlight.borders.Border.{Border}
use Rattle.textarea_highlight.specs.declared.highlight.highlighter.CursorCellRender.{CursorCellRender}
use Rattle.textarea_highlight.specs.declared.highlight.highlighter.CursorCellRender.TheVariants.{Draw, Hidden}
use Rattle.textarea_highlight.specs.Borders.{IsEmptyAt, highlight_borders, match_borders}
use Rattle.textarea_highlight.specs.Numbers.{number_span, placeholder_span}

pub record Highlights : Type 0 where
  -- the bytes of the row
  pub row : List ℕ
  -- the spans in front of the row
  pub numbers : List SpanView
  -- the borders of the highlights, as they were added
  pub borders : List Border
  -- the style where no highlight is
  pub base : Style
  -- the cursor is after the row's last character
  pub cursor_at_end : Bool
  pub cursor_cell : CursorCellRender
  pub tab_len : ℕ
  pub mask : Option ℕ
  -- a selection continues after the row
  pub break_is_selected : Bool
  pub select_style : Style

-- ---- ranks: of highlights that start at one offset, the highest rank is shown; a match's is 20

abbrev pub cursor_rank : ℕ
cursor_rank = 30

abbrev pub selection_rank : ℕ
selection_rank = 10

-- ---- a highlighter to which nothing was added

abbrev pub plain_row : List ℕ → CursorCellRender → ℕ → Option ℕ → Style → Highlights
plain_row row cursor_cell tab_len mask select_style = record {
  row = row;
  numbers = [];
  borders = [];
  base = empty_style;
  cursor_at_end = false;
  cursor_cell = cursor_cell;
  tab_len = tab_len;
  mask = mask;
  break_is_selected = false;
  select_style = select_style;
}

-- ---- what is added

abbrev pub with_number : Highlights → ℕ → ℕ → Style → Highlights
with_number h row width style = record h { numbers = h.numbers ++ number_span row width style ∷ [] }

abbrev pub with_placeholder : Highlights → ℕ → Style → Highlights
with_placeholder h width style = record h { numbers = h.numbers ++ placeholder_span width style ∷ [] }

abbrev pub with_base : Highlights → Style → Highlights
with_base h style = record h { base = style }

-- a highlight of the row's bytes between two offsets
abbrev pub with_highlight : Highlights → ℕ → ℕ → Style → ℕ → Highlights
with_highlight h from to style rank = record h { borders = h.borders ++ highlight_borders h.row from to style rank }

-- the byte at which the character of this column begins, or the row's length after them all
abbrev pub byte_of : List ℕ → ℕ → ℕ
byte_of row column = length (encode_utf8_all (take column (chars row)))

-- the cursor at a column: a highlight of one character, if its cell is drawn and the row has it
abbrev pub cursor_borders : CursorCellRender → List ℕ → ℕ → List Border
cursor_borders (Draw style) row column = highlight_borders row (byte_of row column) (byte_of row (column + 1)) style cursor_rank
cursor_borders Hidden row column = []

abbrev pub with_cursor_line : Highlights → ℕ → Style → Highlights
with_cursor_line h column style = record h {
  borders = h.borders ++ cursor_borders h.cursor_cell h.row column;
  base = style;
  cursor_at_end = h.cursor_at_end || nat_le (length (chars h.row)) column;
}

-- the cursor highlights no cell of the row: it is hidden, or its column is after all characters
abbrev pub AddsNoCursor : Highlights → ℕ → Type 0
AddsNoCursor h column = (h.cursor_cell ≡ Hidden) ⊎ (length (chars h.row) ≤ column)

abbrev pub with_matches : Highlights → List (ℕ × ℕ) → Style → Highlights
with_matches h pairs style = record h { borders = h.borders ++ match_borders h.row pairs style }

-- ---- a range over several rows, from a (row, byte) to a (row, byte)

abbrev pub Range : Type 0
Range = (ℕ × ℕ) × (ℕ × ℕ)

-- the row with this index is in the range
abbrev pub is_in_range : ℕ → Range → Bool
is_in_range current range = nat_le range.0.0 current && nat_le current range.1.0

-- the range continues after the row
abbrev pub continues_after_row : ℕ → Range → Bool
continues_after_row current range = nat_le range.0.0 current && nat_lt current range.1.0

-- the range in the row: from its start, or else from 0; to its end, or else to the row's end
abbrev pub segment_start : ℕ → Range → ℕ
segment_start current range = if current == range.0.0 then range.0.1 else 0

abbrev pub segment_end : List ℕ → ℕ → Range → ℕ
segment_end row current range = if current == range.1.0 then range.1.1 else length row

abbrev pub range_borders : List ℕ → ℕ → Range → Style → ℕ → List Border
range_borders row current range style rank =
    if is_in_range current range then highlight_borders row (segment_start current range) (segment_end row current range) style rank else []

abbrev pub with_range : Highlights → ℕ → Range → Style → ℕ → Highlights
with_range h current range style rank = record h {
  borders = h.borders ++ range_borders h.row current range style rank;
  break_is_selected = h.break_is_selected || continues_after_row current range;
}

-- the range covers no character of the row: the row is outside of it, or it is empty in the row
abbrev pub AddsNoRange : Highlights → ℕ → Range → Type 0
AddsNoRange h current range =
    (is_in_range current range ≡ false) ⊎ IsEmptyAt h.row (segment_start current range) (segment_end h.row current range)

abbrev pub with_selection : Highlights → ℕ → Range → Highlights
with_selection h current range = with_range h current range h.select_style selection_rank

-- a range of a selection in this row, which may continue after it
abbrev pub with_segment : Highlights → ℕ → ℕ → Bool → Highlights
with_segment h from to at_end = record h {
  borders = h.borders ++ highlight_borders h.row from to h.select_style selection_rank;
  break_is_selected = h.break_is_selected || at_end;
}

-- ---- the cell after the row

-- The style of the cell after the row, if it is drawn. With the cursor there it is the cursor's
-- style, or for a hidden cursor the selection's style if the break is selected, and else the base
-- style. Without the cursor it is drawn only if the break is selected.
abbrev pub cursor_end_style : CursorCellRender → Bool → Style → Style → Style
cursor_end_style (Draw style) break_is_selected select_style base = style
cursor_end_style Hidden break_is_selected select_style base = if break_is_selected then select_style else base

abbrev pub end_style : Highlights → Option Style
end_style h =
    if h.cursor_at_end
    then Some (cursor_end_style h.cursor_cell h.break_is_selected h.select_style h.base)
    else (if h.break_is_selected then Some h.select_style else None)

-- one blank in that style, or nothing
abbrev pub end_cell : Option Style → List SpanView
end_cell (Some style) = record { content = BorrowedBytes (codes " "); style = style } ∷ []
end_cell None = []
