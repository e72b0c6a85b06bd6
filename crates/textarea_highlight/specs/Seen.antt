-- A line that shows a part of a row, beside a line that shows the whole row.
use Rattle.std.specs.Prelude.{◌≡◌, ◌⊎◌, ℕ, ◌+◌, ◌<◌, ◌≤◌, true, List, [], ◌∷◌, ◌++◌, All, length, sum_by, None, encode_utf8_all}
use Rattle.std.specs.Str.{chars, IsUtf8, all_scalars}
use Rattle.textarea_screen.specs.Style.{empty_style}
use Rattle.textarea_screen.specs.Text.{LineView, SpanView}
use Rattle.textarea_wrap.specs.Columns.{plain_width}
use Rattle.textarea_highlight.specs.declared.highlight.highlighter.RowPart.{RowPart}
use Rattle.textarea_highlight.specs.Highlights.{Highlights, end_cell, end_style}
use Rattle.textarea_highlight.specs.Row.{ShowsRow, part_end, part_numbers, whole_row}
use Rattle.textarea_highlight.specs.Plain.{is_plain}
use Rattle.textarea_highlight.specs.Seams.{IsBetweenSeams}
use Rattle.textarea_highlight.specs.Texts.{text_bytes_of}

-- ---- spans

-- what a span shows is text
abbrev pub IsText : SpanView → Type 0
IsText span = IsUtf8 (text_bytes_of span.content)

-- the columns of what spans show
abbrev pub span_columns : SpanView → ℕ
span_columns span = sum_by plain_width (chars (text_bytes_of span.content))

abbrev pub spans_columns : List SpanView → ℕ
spans_columns spans = sum_by span_columns spans

-- a span is split after a plain character and before another one
pub record IsSpanSplit (whole first second : SpanView) : Type 0 where
  pub first_style : first.style ≡ whole.style
  pub second_style : second.style ≡ whole.style
  pub text : text_bytes_of whole.content ≡ text_bytes_of first.content ++ text_bytes_of second.content
  pub front : List ℕ
  pub back : List ℕ
  pub left : ℕ
  pub right : ℕ
  pub first_text : text_bytes_of first.content ≡ encode_utf8_all (front ++ left ∷ [])
  pub second_text : text_bytes_of second.content ≡ encode_utf8_all (right ∷ back)
  pub first_valid : all_scalars (front ++ left ∷ []) ≡ true
  pub second_valid : all_scalars (right ∷ back) ≡ true
  pub left_plain : is_plain left ≡ true
  pub right_plain : is_plain right ≡ true

-- the spans are in two parts, and one span is split between them
pub record AreSpansSplit (spans before after : List SpanView) : Type 0 where
  pub front : List SpanView
  pub back : List SpanView
  pub whole : SpanView
  pub first : SpanView
  pub second : SpanView
  pub split : IsSpanSplit whole first second
  pub spans_are : spans ≡ front ++ (whole ∷ back)
  pub before_are : before ≡ front ++ first ∷ []
  pub after_are : after ≡ second ∷ back

-- the spans are in two parts, and at most one span is split between them
abbrev pub AreInTwo : List SpanView → List SpanView → List SpanView → Type 0
AreInTwo spans before after = (spans ≡ before ++ after) ⊎ AreSpansSplit spans before after

-- ---- the part between two columns

-- the line of all segments of a row
abbrev pub line_of_segments : Highlights → List SpanView → LineView
line_of_segments h segments = record { spans = h.numbers ++ (segments ++ end_cell (end_style h)); style = empty_style }

-- the whole row, or from a seam to another one, without a mask and with tab stops
abbrev pub IsPartBetween : Highlights → ℕ → ℕ → RowPart → Type 0
IsPartBetween h left right part =
    (part ≡ whole_row h.row) ⊎ ((h.mask ≡ None) × (0 < h.tab_len) × IsBetweenSeams h.row h.tab_len left right part)

-- The line shows a part of the row. The row's segments are those before the part, which end before
-- the column `left`, those of the part, and those after it, which begin at or after the column
-- `right`. At each end of the part one segment may be split.
pub record ShowsBetween (h : Highlights) (left right : ℕ) (part : RowPart) (line : LineView) : Type 0 where
  pub segments : List SpanView
  pub shows : ShowsRow h (line_of_segments h segments)
  pub front : List SpanView
  pub before : List SpanView
  pub displayed : List SpanView
  pub after : List SpanView
  pub at_end : AreInTwo segments front after
  pub at_start : AreInTwo front before displayed
  pub spans : line.spans ≡ part_numbers h part ++ (displayed ++ end_cell (part_end h part))
  pub style : line.style ≡ empty_style
  pub from_start : part.from ≡ 0 → before ≡ []
  pub to_end : part.to ≡ length h.row → after ≡ []
  pub before_text : All IsText before
  pub before_columns : spans_columns before ≡ part.column
  pub at_left : 0 < part.from → part.column < left
  pub at_right : (part.to ≡ length h.row) ⊎ (All IsText displayed × (right ≤ part.column + spans_columns displayed))
