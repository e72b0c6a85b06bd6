-- The grapheme clusters of a line.
use Rattle.std.specs.Prelude.{ℕ, ◌≤◌, true, List, map, length, All}
use Rattle.std.specs.List.{flat_map}
use Rattle.unicode_segmentation.specs.Grapheme.{graphemes}
use Rattle.textarea_screen.specs.Style.{patched}
use Rattle.textarea_screen.specs.Text.{ContentView, SpanView, LineView}
use Rattle.textarea_screen.specs.Text.ContentView.{BorrowedBytes, OwnedBytes}
use Rattle.textarea_screen.specs.declared.screen.cell.TheConstants.{INLINE_BYTES}
use Rattle.textarea_screen.specs.declared.screen.style.Style.{Style}
use Rattle.textarea_paint.specs.Letters.{letter_texts}
use Rattle.textarea_paint.specs.Plain.{singles}

-- a grapheme cluster, by its bytes, in a style
pub record Cluster : Type 0 where
  pub text : List ℕ
  pub style : Style

abbrev pub in_style : Style → List ℕ → Cluster
in_style style text = record { text = text; style = style }

-- each byte as a cluster
abbrev pub plain_clusters : Style → List ℕ → List Cluster
plain_clusters style text = map (in_style style) (singles text)

-- each character as a cluster
abbrev pub letter_clusters : Style → List ℕ → List Cluster
letter_clusters style text = map (in_style style) (letter_texts text)

-- the extended grapheme clusters (UAX #29) of a text
abbrev pub text_clusters : Style → List ℕ → List Cluster
text_clusters style text = map (in_style style) (graphemes true text)

-- the bytes of a text, borrowed or owned
abbrev pub content_bytes : ContentView → List ℕ
content_bytes (BorrowedBytes bytes) = bytes
content_bytes (OwnedBytes bytes) = bytes

-- the extended grapheme clusters (UAX #29) of a span, in its style patched over the given one
abbrev pub span_clusters : Style → SpanView → List Cluster
span_clusters style span = map (in_style (patched style span.style)) (graphemes true (content_bytes span.content))

-- the clusters of a line; its style is under that of each span, and the given one under both
abbrev pub row_clusters : Style → LineView → List Cluster
row_clusters style line = flat_map (span_clusters (patched style line.style)) line.spans

-- each cluster is short enough to be stored in its cell
abbrev pub AreInline : List Cluster → Type 0
AreInline clusters = All (λ cluster. length cluster.text ≤ INLINE_BYTES) clusters
