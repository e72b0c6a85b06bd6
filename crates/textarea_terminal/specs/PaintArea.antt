-- The cells and the caret of an area.
use Rattle.std.specs.Prelude.{ℕ, ◌*◌, Option, Some, None, if◌then◌else◌}
use Rattle.textarea_screen.specs.Buffer.{place_in}
use Rattle.textarea_screen.specs.Rect.{contains}
use Rattle.textarea_screen.specs.declared.screen.buffer.Buffer.{Buffer}
use Rattle.textarea_screen.specs.declared.screen.rect.Position.{Position}
use Rattle.textarea_screen.specs.declared.screen.rect.Rect.{Rect}
use Rattle.textarea_terminal.specs.Paint.{PaintedFrame}
use Rattle.textarea_terminal.specs.PaintCells.{frame_of_buffer}
use Rattle.textarea_terminal.specs.declared.output.colors.Colors.{Colors}

-- the number of cells
abbrev pub cell_count : Rect → ℕ
cell_count area = area.height * area.width

-- the index of the caret's cell in the area; a caret outside of it isn't shown
abbrev pub caret_in : Rect → Option Position → Option ℕ
caret_in area None = None
caret_in area (Some position) = if contains area position.x position.y then Some (place_in area position.x position.y) else None

-- what a terminal of these colours and this area is to show
abbrev pub frame_in : Colors → Rect → Buffer → Option Position → PaintedFrame
frame_in colors area buffer caret = record { cells = frame_of_buffer colors area buffer; caret = caret_in area caret }
