-- Styled text as contracts see it. A `String` also has a capacity and an address, which no reader
-- needs. So texts are compared by their bytes, by whether they are borrowed, and by their styles.
use Rattle.std.specs.Prelude.{ℕ, List, map, string_bytes}
use Rattle.textarea_screen.specs.declared.screen.style.Style.{Style}
use Rattle.textarea_screen.specs.declared.screen.text.Line.{Line}
use Rattle.textarea_screen.specs.declared.screen.text.Span.{Span}
use Rattle.textarea_screen.specs.declared.screen.text.SpanText.{SpanText}
use Rattle.textarea_screen.specs.declared.screen.text.Text.{Text}
use Rattle.textarea_screen.specs.declared.screen.text.SpanText.TheVariants.{Borrowed, Owned}

-- the bytes of the text, in UTF-8
abbrev pub text_bytes : SpanText → List ℕ
text_bytes (Borrowed text) = text.now
text_bytes (Owned text) = string_bytes text

-- the text is borrowed
abbrev pub IsBorrowed : SpanText → Type 0
IsBorrowed (Borrowed text) = Unit {0}
IsBorrowed (Owned text) = ⊥

-- the bytes of a text, and whether it is borrowed or owned
pub data ContentView : Type 0 where
  BorrowedBytes : List ℕ → ContentView
  OwnedBytes : List ℕ → ContentView

abbrev pub content_view : SpanText → ContentView
content_view (Borrowed text) = BorrowedBytes text.now
content_view (Owned text) = OwnedBytes (string_bytes text)

-- a span: its text and its style
pub record SpanView : Type 0 where
  pub content : ContentView
  pub style : Style

abbrev pub span_view : Span → SpanView
span_view span = record { content = content_view span.content; style = span.style }

-- a line: its spans in order, and its style
pub record LineView : Type 0 where
  pub spans : List SpanView
  pub style : Style

abbrev pub line_view : Line → LineView
line_view line = record { spans = map span_view line.spans.items; style = line.style }

-- a text: its lines in order, and its style
pub record TextView : Type 0 where
  pub lines : List LineView
  pub style : Style

abbrev pub text_view : Text → TextView
text_view text = record { lines = map line_view text.lines.items; style = text.style }
