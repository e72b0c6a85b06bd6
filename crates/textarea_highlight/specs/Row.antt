-- The spans of a whole row.
use Rattle.std.specs.Prelude.{◌≡◌, ℕ, ◌*◌, ◌<◌, ◌≤◌, ◌==◌, List, [], ◌++◌, Option, None, length, take, encode_utf8_all, IsCharBoundary, if◌then◌else◌}
use Rattle.std.specs.Str.{chars}
use Rattle.textarea_screen.specs.Style.{empty_style}
use Rattle.textarea_screen.specs.Text.{SpanView, LineView}
use Rattle.textarea_screen.specs.declared.screen.style.Style.{Style}
use Rattle.textarea_highlight.specs.declared.highlight.borders.Border.{Border}
use Rattle.textarea_highlight.specs.declared.highlight.highlighter.RowPart.{RowPart}
use Rattle.textarea_highlight.specs.Borders.{IsBorderOrder}
use Rattle.textarea_highlight.specs.Columns.{column_of}
use Rattle.textarea_highlight.specs.Display.{display_text}
use Rattle.textarea_highlight.specs.Split.{AddsSegments, IsSplit, text_of_spans}
use Rattle.textarea_highlight.specs.Highlights.{Highlights, end_style, end_cell}

-- ---- a part of a row

-- characters begin at the part's ends, or the row ends there, and the part begins at its column
pub record IsPartOf (h : Highlights) (part : RowPart) : Type 0 where
  pub order : part.from ≤ part.to
  pub start : IsCharBoundary h.row part.from
  pub end : IsCharBoundary h.row part.to
  pub column : part.column ≡ column_of h.row h.tab_len part.from
  pub near : part.column ≤ 255 * part.from

-- the spans in front of the row, if the part begins with it
abbrev pub part_numbers : Highlights → RowPart → List SpanView
part_numbers h part = if part.from == 0 then h.numbers else []

-- the style of the cell after the row, if the part ends with the row and the cell is drawn
abbrev pub part_end : Highlights → RowPart → Option Style
part_end h part = if part.to == length h.row then end_style h else None

-- the segments of the part, split at the row's borders, and the cell after it are appended to spans
pub record AddsPart (h : Highlights) (part : RowPart) (old new : List SpanView) : Type 0 where
  pub front : List SpanView
  pub split : AddsSegments (take part.to h.row) h.borders h.base h.tab_len h.mask part.from old front
  pub spans : new ≡ front ++ end_cell (part_end h part)

-- The line shows the part: what is in front of it, its segments, and the cell after it. Its first
-- and its last segment are parts of the row's segments, and the others are segments of the row.
pub record ShowsPart (h : Highlights) (part : RowPart) (line : LineView) : Type 0 where
  pub sorted : List Border
  pub order : IsBorderOrder h.borders sorted
  pub segments : List SpanView
  pub split : IsSplit (take part.to h.row) sorted h.base h.tab_len h.mask part.from segments part.to
  pub spans : line.spans ≡ part_numbers h part ++ (segments ++ end_cell (part_end h part))
  pub style : line.style ≡ empty_style

-- ---- a whole row

abbrev pub whole_row : List ℕ → RowPart
whole_row row = record { from = 0; to = length row; column = 0 }

-- the line shows the row: the spans in front of it, its segments, and the cell after it
pub record ShowsRow (h : Highlights) (line : LineView) : Type 0 where
  pub sorted : List Border
  pub order : IsBorderOrder h.borders sorted
  pub segments : List SpanView
  pub split : IsSplit h.row sorted h.base h.tab_len h.mask 0 segments (length h.row)
  pub spans : line.spans ≡ h.numbers ++ (segments ++ end_cell (end_style h))
  pub style : line.style ≡ empty_style
  -- with tab stops, the segments together show the same text for all highlights and cursors
  pub whole : 0 < h.tab_len → text_of_spans segments ≡ encode_utf8_all (display_text h.mask h.tab_len 0 (chars h.row))

-- an empty row with nothing in front of it or after it, and without a highlight
pub record ShowsNothing (h : Highlights) : Type 0 where
  pub row : h.row ≡ []
  pub numbers : h.numbers ≡ []
  pub borders : h.borders ≡ []
  pub after : end_style h ≡ None
