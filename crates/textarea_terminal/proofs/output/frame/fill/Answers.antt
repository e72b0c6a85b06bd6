use Rattle.std.proofs.Common.{arith}
use Rattle.textarea_terminal.specs.PaintCells.{frame_of_buffer}
use Rattle.textarea_terminal.proofs.PaintFill.{fill-start, fill-step, fill-end}
use Rattle.textarea_terminal.proofs.output.frame.fill.Goals as goal

pub loop-index-init : goal.loop-index-init
loop-index-init c = (fill-start c.args.colors c.args.area c.args.buffer.now, c.first-spot.ensures.index, rw c.from-columns.ensures at c.first-spot.ensures.is)

pub loop-index-preserved : goal.loop-index-preserved
loop-index-preserved c = (
  fill-step c.args.colors c.args.area c.args.buffer.now c.loop-index.cells c.loop-index.index c.loop-index.halves c.in_ok-halves.halves c.fill_cell.new.cell _
      (frame_of_buffer c.args.colors c.args.area c.args.buffer.now) (omega arith) (rw c.loop-index.invariant.1 at c.in_ok-halves.ensures) c.loop-index.invariant.0,
  omega (arith, c.next-spot.ensures.index, c.loop-index.invariant.1),
  rw c.from-columns.ensures at c.next-spot.ensures.is,
)

pub returns : goal.returns
returns c =
    fill-end c.args.colors c.args.area c.args.buffer.now c.loop-index.cells c.loop-index.index c.loop-index.halves (frame_of_buffer c.args.colors c.args.area c.args.buffer.now) (omega arith)
    (omega arith) c.loop-index.invariant.0
