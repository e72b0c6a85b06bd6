use Rattle.std.proofs.Common.{length, map, Some}
use Rattle.textarea_screen.specs.Cell.{cell_view}
use Rattle.textarea_terminal.specs.Paint.{PaintedFrame, Paints}
use Rattle.textarea_terminal.proofs.ControlLemmas.{Wrote-as}
use Rattle.textarea_terminal.proofs.PaintWhole.{Wrote-frame, paints-known, within-visible}
use Rattle.textarea_terminal.proofs.output.whole.write_frame.Goals as goal

pub returns : goal.returns
returns c =
    let old : PaintedFrame = record { cells = map cell_view c.args.old.now; caret = c.args.old_caret } in
    let new : PaintedFrame = record { cells = map cell_view c.args.new.now; caret = c.args.caret } in
    Wrote-as (Paints c.args.columns (length c.args.new.now) (Some old) new)
    (Wrote-frame _ c.in_ok-brush.brush _ c.args.columns old.cells new.cells c.args.caret (within-visible c.args.caret c.args.new.now c.requires.caret) c.in_ok-brush.ensures (rw c.is_some.ensures at c.in_ok-write_end.ensures))
    (λ xs finish. paints-known c.args.columns (length c.args.new.now) old new xs c.requires.new_whole finish)
