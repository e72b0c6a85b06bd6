-- The state of a painter in clauses.
use Rattle.std.specs.Prelude.{Option, Some, None, map, if◌then◌else◌}
use Rattle.textarea_screen.specs.Cell.{cell_view}
use Rattle.textarea_screen.specs.declared.screen.rect.Rect.{Rect}
use Rattle.textarea_terminal.specs.Paint.{PaintedFrame}
use Rattle.textarea_terminal.specs.declared.output.colors.Colors.{Colors}
use Rattle.textarea_terminal.specs.declared.output.painter.Painter.{Painter}

-- the rectangle of the buffer that the terminal shows
abbrev pub painter_area : Painter → Rect
painter_area painter = painter.area

-- the colours that the terminal has
abbrev pub painter_colors : Painter → Colors
painter_colors painter = painter.colors

-- the frame that was painted last, unless the terminal's content is unknown
abbrev pub painted : Painter → Option PaintedFrame
painted painter = if painter.is_known then Some (record { cells = map cell_view painter.visible.items; caret = painter.caret }) else None
