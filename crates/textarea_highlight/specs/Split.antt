-- A row that is split into spans at its borders.
use Rattle.std.specs.Prelude.{◌≡◌, ◌⊎◌, ℕ, ◌<◌, ◌≤◌, ◌↔◌, nat_le, List, [], ◌∷◌, ◌++◌, All, map, filter, slice_range, length, slice_index_or, Option, None, encode_utf8_all}
use Rattle.std.specs.List.{Any, concat}
use Rattle.std.specs.Str.{chars}
use Rattle.textarea_screen.specs.declared.screen.style.Style.{Style}
use Rattle.textarea_screen.specs.Text.{SpanView}
use Rattle.textarea_highlight.specs.Texts.{text_bytes_of, IsUncopied}
use Rattle.textarea_highlight.specs.Brackets.{IsStyleAfter}
use Rattle.textarea_highlight.specs.Columns.{column_of}
use Rattle.textarea_highlight.specs.Display.{display_text}
use Rattle.textarea_highlight.specs.declared.highlight.borders.BorderEffect.{BorderEffect}
use Rattle.textarea_highlight.specs.OpenStyles.{ArePassed, base_of}
use Rattle.textarea_highlight.specs.declared.highlight.brackets.OpenStyles.{OpenStyles}
use Rattle.textarea_highlight.specs.declared.highlight.borders.Border.{Border}

-- the offsets of the borders never decrease
abbrev pub IsAscending : List Border → Type 0
IsAscending borders = (i k : ℕ) (d e : Border) → i ≤ k → k < length borders →
    (slice_index_or borders i d).offset ≤ (slice_index_or borders k e).offset

-- the marks of the borders up to an offset
abbrev pub marks_upto : List Border → ℕ → List BorderEffect
marks_upto borders offset = map (λ border. border.mark) (filter (λ border. nat_le border.offset offset) borders)

-- the characters of a segment of the row, and the characters that are shown for them
abbrev pub segment_of : List ℕ → ℕ → ℕ → List ℕ
segment_of row from to = chars (slice_range row from to)

abbrev pub display_segment : List ℕ → ℕ → Option ℕ → ℕ → ℕ → List ℕ
display_segment row tab_len mask from to =
    display_text mask tab_len (column_of row tab_len from) (segment_of row from to)

-- The span shows the segment of the row between two offsets, which ends at a border or at the row's
-- end, and has no border inside. Its text is borrowed exactly if it is the row's own.
pub record ShowsSegment (row : List ℕ) (borders : List Border) (base : Style) (tab_len : ℕ) (mask : Option ℕ) (from to : ℕ) (span : SpanView) : Type 0 where
  pub not_empty : from < to
  pub edge : (to ≡ length row) ⊎ Any (λ border. border.offset ≡ to) borders
  pub uncut : All (λ border. (border.offset ≤ from) ⊎ (to ≤ border.offset)) borders
  pub style : IsStyleAfter (marks_upto borders from) base span.style
  pub text : text_bytes_of span.content ≡ encode_utf8_all (display_segment row tab_len mask from to)
  pub borrowed : IsUncopied span.content ↔ ((mask ≡ None) × (display_segment row tab_len mask from to ≡ segment_of row from to))

-- the spans show the row between two offsets, segment by segment
abbrev pub IsSplit : List ℕ → List Border → Style → ℕ → Option ℕ → ℕ → List SpanView → ℕ → Type 0
IsSplit row borders base tab_len mask from [] to = from ≡ to
IsSplit row borders base tab_len mask from (span ∷ spans) to =
    (mid : ℕ) × ShowsSegment row borders base tab_len mask from mid span × IsSplit row borders base tab_len mask mid spans to

-- the span shows the next segment, in the current style
pub record ShowsNext (row : List ℕ) (tab_len : ℕ) (mask : Option ℕ) (styles : OpenStyles) (from to : ℕ) (span : SpanView) : Type 0 where
  pub style : (marks : List BorderEffect) → ArePassed styles marks → IsStyleAfter marks (base_of styles) span.style
  pub text : text_bytes_of span.content ≡ encode_utf8_all (display_segment row tab_len mask from to)
  pub borrowed : IsUncopied span.content ↔ ((mask ≡ None) × (display_segment row tab_len mask from to ≡ segment_of row from to))

-- an empty segment adds nothing, and another one adds a span that shows it in the current style
abbrev pub AddsSegment : List ℕ → ℕ → Option ℕ → OpenStyles → ℕ → ℕ → List SpanView → List SpanView → Type 0
AddsSegment row tab_len mask styles from to old new =
    ((from ≡ to) × (new ≡ old))
    ⊎ ((from < to) × ((span : SpanView) × ShowsNext row tab_len mask styles from to span × (new ≡ old ++ span ∷ [])))

-- the joined texts of spans
abbrev pub text_of_spans : List SpanView → List ℕ
text_of_spans spans = concat (map (λ span. text_bytes_of span.content) spans)

-- the row's segments from an offset on are appended to the spans
pub record AddsSegments (row : List ℕ) (borders : List Border) (base : Style) (tab_len : ℕ) (mask : Option ℕ) (from : ℕ) (old new : List SpanView) : Type 0 where
  pub segments : List SpanView
  pub split : IsSplit row borders base tab_len mask from segments (length row)
  pub added : new ≡ old ++ segments
