use Rattle.std.proofs.Common.{◌≡◌, ◌+◌, ◌-◌, ◌*◌}
use Rattle.textarea_terminal.specs.PaintCells.{begins_empty, cells_at}
use Rattle.textarea_terminal.proofs.output.frame.are_empty.Given as goal

abbrev pub invariant-loop-index : goal.invariant-loop-index
invariant-loop-index l =
    begins_empty (l.fn.from + l.fn.count - l.index) (cells_at l.area l.buffer l.index (l.area.height * l.area.width - l.index))
    ≡ begins_empty l.fn.count (cells_at l.area l.buffer l.fn.from (l.area.height * l.area.width - l.fn.from))
