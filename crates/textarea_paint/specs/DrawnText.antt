-- A text, and a line of styled text, that are drawn from a cell of a buffer on.
use Rattle.std.specs.Prelude.{ℕ, ◌+◌, ◌-◌, min, List, [], ◌∷◌}
use Rattle.std.specs.List.{flat_map}
use Rattle.textarea_screen.specs.Buffer.{Change}
use Rattle.textarea_screen.specs.Style.{empty_style}
use Rattle.textarea_screen.specs.Text.{LineView, SpanView}
use Rattle.textarea_screen.specs.Text.ContentView.{BorrowedBytes}
use Rattle.textarea_screen.specs.declared.screen.rect.Rect.{Rect}
use Rattle.textarea_screen.specs.declared.screen.style.Style.{Style}
use Rattle.textarea_paint.specs.Cells.{place_from, row_change}
use Rattle.textarea_paint.specs.Clusters.{Cluster, row_clusters, span_clusters}
use Rattle.textarea_paint.specs.declared.paint.cells.RowCells.{RowCells}

-- the cells of row y from column x up to the right edge of the area, at most this number
abbrev pub cells_to_edge : Rect → ℕ → ℕ → ℕ → RowCells
cells_to_edge area x y most = record { x = x; y = y; width = min most (area.x + area.width - x) }

-- the grapheme clusters of spans, in their styles patched over the given one
abbrev pub spans_clusters : Style → List SpanView → List Cluster
spans_clusters style spans = flat_map (span_clusters style) spans

-- a span of a borrowed text in the empty style
abbrev pub raw_span : List ℕ → SpanView
raw_span text = record { content = BorrowedBytes text; style = empty_style }

-- the cells after a text in one style is drawn into these cells
abbrev pub text_change : RowCells → Style → List ℕ → Change
text_change cells style text = row_change cells 0 (place_from 0 (spans_clusters style (raw_span text ∷ [])))

-- the cells after a line is drawn into these cells
abbrev pub line_change : RowCells → LineView → Change
line_change cells line = row_change cells 0 (place_from 0 (row_clusters empty_style line))
