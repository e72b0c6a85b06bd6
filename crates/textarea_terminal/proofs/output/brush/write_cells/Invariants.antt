use Rattle.std.proofs.Common.{◌≡◌, map}
use Rattle.textarea_screen.specs.Cell.{cell_view}
use Rattle.textarea_terminal.specs.PaintSpot.{IsSpot}
use Rattle.textarea_terminal.specs.Paint.{Wrote}
use Rattle.textarea_terminal.proofs.PaintSteps.{Reaches}
use Rattle.textarea_terminal.proofs.output.brush.write_cells.Given as goal

abbrev pub invariant-loop-index : goal.invariant-loop-index
invariant-loop-index l =
    (Wrote l.initial.bytes.items l.bytes.items (Reaches l.initial.brush l.brush l.columns l.index (map cell_view l.old) (map cell_view l.new)))
    × (l.spot.index ≡ l.index) × IsSpot l.columns l.spot
