-- The block around the rows of a text area, the placeholder, and the least and greatest height.
use Rattle.std.specs.Prelude.{ℕ, ◌≤◌, List, [], ◌∷◌, Option, None, Some}
use Rattle.textarea_screen.specs.Block.{BlockView}
use Rattle.textarea_screen.specs.Style.{empty_style}
use Rattle.textarea_screen.specs.Text.{ContentView, LineView, SpanView, TextView}
use Rattle.textarea_screen.specs.Text.ContentView.{OwnedBytes, BorrowedBytes}
use Rattle.textarea_screen.specs.declared.screen.color.Color.TheVariants.{DarkGray}
use Rattle.textarea_screen.specs.declared.screen.style.Style.{Style}

-- the block around the rows, if there is one; the placeholder, which is drawn instead of an empty
-- text if it has lines; and the least and the greatest height to measure, in rows
pub record SurroundState : Type 0 where
  pub block : Option BlockView
  pub placeholder : TextView
  pub min_rows : ℕ
  pub max_rows : ℕ

-- the least height is one row or more, and the greatest height is no less
abbrev pub AreBounds : ℕ → ℕ → Type 0
AreBounds min_rows max_rows = (1 ≤ min_rows) × (min_rows ≤ max_rows)

abbrev pub default_placeholder_style : Style
default_placeholder_style = record empty_style { fg = Some DarkGray }

abbrev pub new_surround : SurroundState
new_surround = record {
  block = None;
  placeholder = record { lines = []; style = default_placeholder_style };
  min_rows = 1;
  max_rows = 65535;
}

-- the bytes of a span's text, borrowed or owned
abbrev pub span_bytes : ContentView → List ℕ
span_bytes (BorrowedBytes bytes) = bytes
span_bytes (OwnedBytes bytes) = bytes

-- the bytes of the first span's text, none without a span
abbrev pub first_span_bytes : List SpanView → List ℕ
first_span_bytes [] = []
first_span_bytes (span ∷ spans) = span_bytes span.content

-- the bytes of the text of the first line's first span, none if there is no line, or no span in it
abbrev pub first_bytes : List LineView → List ℕ
first_bytes [] = []
first_bytes (line ∷ lines) = first_span_bytes line.spans

-- the style of a text, if it has lines
abbrev pub style_with_lines : List LineView → Style → Option Style
style_with_lines [] style = None
style_with_lines (line ∷ lines) style = Some style
