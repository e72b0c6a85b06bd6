use Rattle.std.proofs.Common.{length, map, replicate, None, refl}
use Rattle.textarea_screen.specs.Cell.{cell_view, fresh_cell}
use Rattle.textarea_terminal.specs.Paint.{PaintedFrame, Paints}
use Rattle.textarea_terminal.proofs.ControlLemmas.{Wrote-then}
use Rattle.textarea_terminal.proofs.PaintWhole.{Wrote-frame, paints-unknown, within-visible}
use Rattle.textarea_terminal.proofs.output.whole.write_first_frame.Goals as goal

pub returns : goal.returns
returns c =
    let old = replicate (length c.args.new.now) fresh_cell in
    let new : PaintedFrame = record { cells = map cell_view c.args.new.now; caret = c.args.caret } in
    Wrote-then (Paints c.args.columns (length c.args.new.now) None new) c.in_ok-clear.ensures
    (Wrote-frame _ c.in_ok-brush.brush _ c.args.columns old new.cells c.args.caret (within-visible c.args.caret c.args.new.now c.requires.caret) c.in_ok-brush.ensures c.in_ok-write_end.ensures)
    (λ xs ys clears finish. paints-unknown c.args.columns (length c.args.new.now) old new xs ys refl c.requires.whole clears finish)
