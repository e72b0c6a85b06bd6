use Rattle.std.proofs.Common.{arith}
use Rattle.textarea_terminal.proofs.PaintFill.{fresh-more}
use Rattle.textarea_terminal.proofs.output.area.fresh_cells.Goals as goal

pub loop-preserved : goal.loop-preserved
loop-preserved c = (
  omega (arith, c.in_ok-push.ensures.len, c.loop.invariant.0),
  rw c.in_ok-push.ensures.items (fresh-more c.loop.cells.items c.fresh.result c.loop.counter c.fresh.ensures c.loop.invariant.1),
)
