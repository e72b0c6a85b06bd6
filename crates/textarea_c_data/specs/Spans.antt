-- The styled texts and blocks that C passes and gets.
use Rattle.std.specs.Prelude.{ℕ, ◌≡◌, ◌+◌, Bool, true, false, List, [], ◌∷◌, ◌++◌, length, map, slice_range, ◌==◌, ◌&&◌, if◌then◌else◌, Option, Some, None, option_map, option_and_then, is_some}
use Rattle.textarea_screen.specs.Block.{BlockView}
use Rattle.textarea_screen.specs.Style.{empty_style}
use Rattle.textarea_screen.specs.Text.{LineView, SpanView, TextView}
use Rattle.textarea_screen.specs.Text.ContentView.{OwnedBytes}
use Rattle.textarea_screen.specs.declared.screen.style.Style.{Style}
use Rattle.textarea_view.specs.SurroundState.{span_bytes}
use Rattle.textarea_c_data.specs.Areas.{padding_of, plain_padding}
use Rattle.textarea_c_data.specs.Copied.{saturated, copied_over}
use Rattle.textarea_c_data.specs.Styles.{plain_style, style_of_numbers}
use Rattle.textarea_c_data.specs.Texts.{all_read, items_between, text_between}
use Rattle.textarea_c_data.specs.declared.spans.CBlock.{CBlock}
use Rattle.textarea_c_data.specs.declared.spans.CLine.{CLine}
use Rattle.textarea_c_data.specs.declared.spans.CSpan.{CSpan}

-- ---- what C gets

-- a span and a line as C gets them
abbrev pub plain_span : SpanView → CSpan
plain_span span = record { bytes = length (span_bytes span.content); style = plain_style span.style }

abbrev pub line_for_c : LineView → CLine
line_for_c line = record { spans = length line.spans; style = plain_style line.style }

-- the texts of spans, one after another
abbrev pub joined_texts : List SpanView → List ℕ
joined_texts [] = []
joined_texts (span ∷ spans) = span_bytes span.content ++ joined_texts spans

-- the spans of lines, one after another
abbrev pub spans_of : List LineView → List SpanView
spans_of [] = []
spans_of (line ∷ lines) = line.spans ++ spans_of lines

-- the spans and their texts are written, with the numbers of all bytes and spans
pub record AreSpansOut (views : List SpanView) (old_text text : List ℕ) (bytes : ℕ) (old_spans spans : List CSpan) (count : ℕ) : Type 0 where
  pub text_is : text ≡ copied_over old_text (joined_texts views)
  pub bytes_is : bytes ≡ saturated (length (joined_texts views))
  pub spans_are : spans ≡ copied_over old_spans (map plain_span views)
  pub count_is : count ≡ saturated (length views)

-- the spans of a title; none without one
abbrev pub title_spans : Option LineView → List SpanView
title_spans None = []
title_spans (Some line) = line.spans

abbrev pub title_style : Option LineView → Style
title_style None = empty_style
title_style (Some line) = line.style

-- a block as C gets it, without its title's spans
abbrev pub block_for_c : BlockView → CBlock
block_for_c block = record {
  borders = block.borders.0;
  has_title = is_some block.title;
  padding = plain_padding block.padding;
  style = plain_style block.style;
  border_style = plain_style block.border_style;
  title_style = plain_style (title_style block.title);
}

-- ---- what C passes

-- a span that C passes, with this text
abbrev pub span_read : Option (List ℕ) → CSpan → Option SpanView
span_read None span = None
span_read (Some bytes) span = option_map (λ style. record { content = OwnedBytes bytes; style = style }) (style_of_numbers span.style)

-- the spans that C passes, whose texts follow one another from the byte `start` on
abbrev pub spans_read : List ℕ → ℕ → List CSpan → Option (List SpanView)
spans_read text start [] = Some []
spans_read text start (span ∷ spans) =
    all_read (span_read (text_between text start (start + span.bytes)) span) (spans_read text (start + span.bytes) spans)

-- the byte after their texts
abbrev pub spans_end : ℕ → List CSpan → ℕ
spans_end start [] = start
spans_end start (span ∷ spans) = spans_end (start + span.bytes) spans

-- a line of these spans in this style, if both are there
abbrev pub line_read : Option (List SpanView) → Option Style → Option LineView
line_read None style = None
line_read (Some spans) style = option_map (λ s. record { spans = spans; style = s }) style

-- the spans that C passes, if they are there
abbrev pub own_spans_read : List ℕ → ℕ → Option (List CSpan) → Option (List SpanView)
own_spans_read text start None = None
own_spans_read text start (Some spans) = spans_read text start spans

-- the lines that C passes, whose spans follow one another from the index `first` on, and the texts of
-- these from the byte `start` on; after the last line nothing is left
abbrev pub lines_read : List ℕ → ℕ → List CSpan → ℕ → List CLine → Option (List LineView)
lines_read text start spans first [] = if (start == length text) && (first == length spans) then Some [] else None
lines_read text start spans first (line ∷ lines) =
    all_read (line_read (own_spans_read text start (items_between spans first (first + line.spans))) (style_of_numbers line.style))
    (lines_read text (spans_end start (slice_range spans first (first + line.spans))) spans (first + line.spans) lines)

-- the styled text that C passes
abbrev pub text_read : List ℕ → List CSpan → List CLine → Option Style → Option TextView
text_read text spans lines None = None
text_read text spans lines (Some style) = option_map (λ views. record { lines = views; style = style }) (lines_read text 0 spans 0 lines)

-- the title that C passes, if the block has one
abbrev pub title_read : Bool → LineView → Option LineView
title_read true line = Some line
title_read false line = None

-- the line of all these spans, whose texts are all of this text
abbrev pub whole_line : List ℕ → List CSpan → Option Style → Option LineView
whole_line text spans style = if spans_end 0 spans == length text then line_read (spans_read text 0 spans) style else None

-- the block that C passes; its title's style is one also if it has no title
abbrev pub block_read : CBlock → List ℕ → List CSpan → Option BlockView
block_read block title spans =
    option_and_then (λ style. option_and_then (λ border_style. option_map (λ line. record {
      borders = record { 0 = block.borders };
      padding = padding_of block.padding;
      title = title_read block.has_title line;
      style = style;
      border_style = border_style;
    }) (whole_line title spans (style_of_numbers block.title_style))) (style_of_numbers block.border_style)) (style_of_numbers block.style)
