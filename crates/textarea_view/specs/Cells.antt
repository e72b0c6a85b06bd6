-- A frame's effect on the cells of a buffer.
use Rattle.std.specs.Prelude.{◌≡◌, Bool, true, false, List, [], ◌∷◌, take, Option, None, Some, if◌then◌else◌}
use Rattle.textarea_view.specs.Frame.{FrameState, shows_placeholder}
use Rattle.textarea_view.specs.Placements.{row_area}
use Rattle.textarea_view.specs.declared.look.Look.{Look}
use Rattle.textarea_paint.specs.Block.{block_cell, in_turn}
use Rattle.textarea_view.specs.SceneDrawn.{FillsArea, lines_change, rows_above_end}
use Rattle.textarea_view.specs.Placeholder.{in_placeholder_style, placeholder_lines}
use Rattle.textarea_view.specs.SceneRows.{cursor_cell}
use Rattle.textarea_screen.specs.Block.{BlockView}
use Rattle.textarea_screen.specs.Buffer.{Change}
use Rattle.textarea_screen.specs.Cell.{styled}
use Rattle.textarea_screen.specs.Rect.{contains}
use Rattle.textarea_screen.specs.Text.{LineView}
use Rattle.textarea_screen.specs.declared.screen.rect.Rect.{Rect}
use Rattle.textarea_screen.specs.declared.screen.style.Style.{Style}
use Rattle.textarea_view.specs.Viewport.{ViewportState}

-- the block, if there is one
abbrev pub block_change : Option BlockView → Rect → Change
block_change None area x y cell = cell
block_change (Some block) area x y cell = block_cell block area x y cell

-- a style on each cell of the inner area
abbrev pub style_change : Rect → Style → Change
style_change inner style x y cell = if contains inner x y then styled style cell else cell

-- lines over the style of the text area, in the inner area, from the viewport's first column on
abbrev pub rows_change : Look → ViewportState → Rect → List LineView → Change
rows_change look viewport inner lines =
    in_turn (style_change inner look.style
    ∷ lines_change (row_area look inner viewport.column) inner.y lines ∷ [])

-- lines that are drawn in only the style of a placeholder
abbrev pub placeholder_change : Look → Style → ViewportState → Rect → List LineView → Change
placeholder_change look style viewport inner lines =
    lines_change (in_placeholder_style (row_area look inner viewport.column) style) inner.y lines

-- the lines of a placeholder that the inner area and the buffer have rows for
abbrev pub drawn_lines : Look → List LineView → Rect → Rect → List LineView
drawn_lines look lines inner buffer =
    take (rows_above_end inner buffer) (placeholder_lines (cursor_cell look) lines)

-- the drawing in the inner area: the placeholder's lines, or those of the visual rows
abbrev pub inside_with : Bool → FrameState → ViewportState → Rect → List LineView → Change
inside_with true frame viewport inner lines =
    placeholder_change frame.scene.look frame.surround.placeholder.style viewport inner lines
inside_with false frame viewport inner lines = rows_change frame.scene.look viewport inner lines

abbrev pub inside_change : FrameState → ViewportState → Rect → List LineView → Change
inside_change frame viewport inner lines =
    inside_with (shows_placeholder frame) frame viewport inner lines

-- the lines that are drawn: the placeholder's, or those of the visual rows from the top on
abbrev pub AreLinesWith : Bool → FrameState → ViewportState → Rect → Rect → List LineView → Type 0
AreLinesWith true frame viewport inner buffer lines =
    lines ≡ drawn_lines frame.scene.look frame.surround.placeholder.lines inner buffer
AreLinesWith false frame viewport inner buffer lines =
    FillsArea frame.scene viewport.row inner buffer lines

abbrev pub AreLinesOf : FrameState → ViewportState → Rect → Rect → List LineView → Type 0
AreLinesOf frame viewport inner buffer lines =
    AreLinesWith (shows_placeholder frame) frame viewport inner buffer lines

-- a cell after a frame is drawn: the block over the area, and then the lines into the inner area
abbrev pub frame_change : FrameState → ViewportState → Rect → Rect → List LineView → Change
frame_change frame viewport area inner lines =
    in_turn (block_change frame.surround.block area
    ∷ inside_change frame viewport inner lines ∷ [])
