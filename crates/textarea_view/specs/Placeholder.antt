-- A placeholder that is drawn instead of the visual rows.
use Rattle.std.specs.Prelude.{ℕ, ◌==◌, List, [], ◌∷◌, map, All, codes, if◌then◌else◌}
use Rattle.textarea_highlight.specs.declared.highlight.highlighter.CursorCellRender.{CursorCellRender}
use Rattle.textarea_highlight.specs.declared.highlight.highlighter.CursorCellRender.TheVariants.{Draw, Hidden}
use Rattle.textarea_paint.specs.Clusters.{AreInline, content_bytes, row_clusters}
use Rattle.textarea_paint.specs.declared.paint.row.RowArea.{RowArea}
use Rattle.textarea_screen.specs.Style.{patched}
use Rattle.textarea_screen.specs.Text.{LineView, SpanView}
use Rattle.textarea_screen.specs.Text.ContentView.{BorrowedBytes}
use Rattle.textarea_screen.specs.declared.screen.style.Style.{Style}

-- the rows, with the style of a placeholder's text over their own
abbrev pub in_placeholder_style : RowArea → Style → RowArea
in_placeholder_style rows style = record rows { style = patched rows.style style }

-- ---- the cursor before the first line

-- one blank in a style
abbrev pub blank : Style → SpanView
blank style = record { content = BorrowedBytes (codes " "); style = style }

-- the line; if the cursor's cell is drawn, one blank in its style is before it
abbrev pub after_cursor : CursorCellRender → LineView → LineView
after_cursor (Draw style) line = record line { spans = blank style ∷ line.spans }
after_cursor Hidden line = line

-- the lines that are drawn: the cursor is before the first one
abbrev pub placeholder_lines : CursorCellRender → List LineView → List LineView
placeholder_lines cursor_cell [] = []
placeholder_lines cursor_cell (line ∷ lines) = after_cursor cursor_cell line ∷ lines

-- how the cursor's cell is drawn before the line of this number: only the first line has it
abbrev pub cell_of_line : CursorCellRender → ℕ → CursorCellRender
cell_of_line cursor_cell line = if line == 0 then cursor_cell else Hidden

-- ---- lines with borrowed texts

abbrev pub borrowed_span : SpanView → SpanView
borrowed_span span = record { content = BorrowedBytes (content_bytes span.content); style = span.style }

abbrev pub borrowed_line : LineView → LineView
borrowed_line line = record { spans = map borrowed_span line.spans; style = line.style }

-- ---- lines that need no allocation

-- each grapheme cluster of each line is short enough to be stored in its cell
abbrev pub AreLinesInline : Style → List LineView → Type 0
AreLinesInline style lines = All (λ line. AreInline (row_clusters style line)) lines
