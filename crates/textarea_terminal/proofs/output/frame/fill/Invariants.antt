use Rattle.std.proofs.Common.{◌≡◌, ◌-◌, ◌*◌, ◌++◌, map, take}
use Rattle.textarea_screen.specs.Cell.{cell_view}
use Rattle.textarea_terminal.specs.PaintSpot.{IsSpot}
use Rattle.textarea_terminal.specs.PaintCells.{displayed, cells_at, frame_of_buffer}
use Rattle.textarea_terminal.proofs.output.frame.fill.Given as goal

abbrev pub invariant-loop-index : goal.invariant-loop-index
invariant-loop-index l =
    (map cell_view (take l.index l.cells) ++ displayed l.colors l.area.width l.index l.halves (cells_at l.area l.buffer l.index (l.area.height * l.area.width - l.index)) ≡ frame_of_buffer l.colors l.area l.buffer)
    × (l.spot.index ≡ l.index) × IsSpot l.area.width l.spot
